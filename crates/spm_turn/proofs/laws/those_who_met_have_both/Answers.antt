use Rattle.spm_turn.proofs.Places.{both_entries, both_places}
use Rattle.spm_turn.proofs.laws.those_who_met_have_both.Goals as goal

pub returns-clause-places : goal.returns-clause-places
returns-clause-places g c = λ by first second log place. both_places by first second log place

pub returns-clause-entries : goal.returns-clause-entries
returns-clause-entries g c = λ by first second log apart. both_entries by first second log apart
