use Rattle.std.specs.Str.{bytes_eq}
use Rattle.std.proofs.Common.{◌≡◌, ◌||◌, ◌∙◌, Bool, true, false, cond, ap, refl, string_bytes}
use Rattle.std.proofs.lemmas.Map.Text.{btree_set_updates_text}
use Rattle.spm_json.specs.Names.{has_name}
use Rattle.spm_json.proofs.names.Names.insert.Goals as goal

-- a choice of true and another truth is their disjunction
or_cond : (test other : Bool) → cond test true other ≡ (test || other)
or_cond true other = refl
or_cond false other = refl

pub returns-clause-met : goal.returns-clause-met
returns-clause-met c = λ other.
    btree_set_updates_text (string_bytes c.in_ok-from_str.field-0) c.args.self.now.texts c.insert.new.self true c.in_ok-insert.ensures.updates other
    ∙ or_cond (bytes_eq (string_bytes c.in_ok-from_str.field-0) other) (has_name c.args.self.now other)
    ∙ ap (λ text. bytes_eq text other || has_name c.args.self.now other) c.in_ok-from_str.ensures.ok
