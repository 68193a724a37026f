-- How a source that shares a cache goes on.
use Rattle.std.proofs.Common.{◌≡◌, ℕ, List, [], ◌++◌, Some, refl, sym, ap, ◌∙◌, subst, append_assoc}
use Rattle.std.specs.FinMap as map
use Rattle.std.specs.Prelude.{IfSome}
use Rattle.std.proofs.lemmas.List.Elements.{All-nil, All-append}
use Rattle.spm_api.specs.declared.base.Base.{Base}
use Rattle.spm_cache.specs.Passing.{Passing}
use Rattle.spm_cache_core.specs.History.{landed}
use Rattle.spm_cache_core.specs.declared.event.Event.{Event}
use Rattle.spm_cache_core.proofs.LawLemmas.{landed_stays}
use Rattle.spm_flight.specs.Work.{Does}
use Rattle.spm_flight.proofs.WorkLemmas.{does_nothing, does_then}
use Rattle.spm_key.specs.declared.key.Key.{Key}
use Rattle.spm_key.specs.declared.reply.Reply.{Reply}
use Rattle.spm_outside.specs.Link.{LinkState}
use Rattle.spm_turn.specs.Log.{StartsWith}
use Rattle.spm_session.specs.Known.{IsWider}
use Rattle.spm_session.specs.Sharing.{DoesBy, GoesSharing, IsMiss, IsQuietAct, IsSame, MissesSharing, knows_by}
use Rattle.spm_session.specs.declared.sharing.Sharing.{Sharing}
use Rattle.spm_session.specs.declared.source.Missed.{Missed}

-- what has landed stays in what is seen later
pub landed_in : (before after : List Event) → StartsWith after before → (asked : Key) (reply : Reply) → map.get (landed before) asked ≡ Some reply
    → map.get (landed after) asked ≡ Some reply
landed_in before after starts asked reply has =
    subst (λ (events : List Event). map.get (landed events) asked ≡ Some reply) (sym starts.1)
    (subst (λ found. IfSome found (λ it. map.get (landed (before ++ starts.0)) asked ≡ Some it)) has (landed_stays before starts.0 asked))

module _ {L G R : Type 0} (state : L → LinkState) where
  pub same_then : (one two three : Sharing L G R) → IsSame one two → IsSame two three → IsSame one three
  same_then one two three first second =
      second ∙ ap (λ (s : Sharing L G R). record s { pass = record s.pass { now = three.pass.now }; link = record s.link { now = three.link.now } }) first

  pub same_base : (one two : Sharing L G R) → IsSame one two → two.run.now.base.now ≡ one.run.now.base.now
  same_base one two same = ap (λ (s : Sharing L G R). s.run.now.base.now) same

  pub does_on : (one two three : Sharing L G R) (added more : List Event) → IsSame one two → DoesBy state one two added → DoesBy state two three more
      → DoesBy state one three (added ++ more)
  does_on one two three added more same first second =
      does_then one.run.now.base.now (state one.link.now) (state two.link.now) (state three.link.now) one.pass.now two.pass.now three.pass.now added more first
      (subst (λ (base : Base). Does base (state two.link.now) (state three.link.now) two.pass.now three.pass.now more) (same_base one two same) second)

  pub same_actor : (one two : Sharing L G R) (added : List Event) → DoesBy state one two added → two.pass.now.actor ≡ one.pass.now.actor
  same_actor one two added does = ap (λ (pass : Passing). pass.actor) does.steps.same

  pub sharing_stays : (one : Sharing L G R) → GoesSharing state one one
  sharing_stays one = record {
    same = refl;
    added = [];
    does = does_nothing one.run.now.base.now (state one.link.now) one.pass.now;
    quiet = All-nil (λ (e : Event). IsQuietAct e.act);
  }

  pub sharing_onward : (one two three : Sharing L G R) → GoesSharing state one two → GoesSharing state two three → GoesSharing state one three
  sharing_onward one two three first second = record {
    same = same_then one two three first.same second.same;
    added = first.added ++ second.added;
    does = does_on one two three first.added second.added first.same first.does second.does;
    quiet = All-append (λ (e : Event). IsQuietAct e.act) first.added second.added first.quiet second.quiet;
  }

  pub sharing_then_misses : (one two three : Sharing L G R) (asked : Key) (reason : Missed) → GoesSharing state one two
      → MissesSharing state two three asked reason → MissesSharing state one three asked reason
  sharing_then_misses one two three asked reason first second = record {
    same = same_then one two three first.same second.same;
    before = first.added ++ second.before;
    last = second.last;
    does = subst (DoesBy state one three) (sym (append_assoc first.added second.before second.last))
        (does_on one two three first.added (second.before ++ second.last) first.same first.does second.does);
    quiet = All-append (λ (e : Event). IsQuietAct e.act) first.added second.before first.quiet second.quiet;
    miss = subst (λ (actor : ℕ). IsMiss actor asked reason second.last) (same_actor one two first.added first.does) second.miss;
    knows = second.knows;
  }

  pub sharing_keeps : (one two : Sharing L G R) → GoesSharing state one two → IsWider (knows_by one) (knows_by two)
  sharing_keeps one two goes asked reply has = landed_in one.pass.now.seen two.pass.now.seen goes.does.steps.starts asked reply has

  pub sharing_keeps_missed : (one two : Sharing L G R) (asked : Key) (reason : Missed) → MissesSharing state one two asked reason
      → IsWider (knows_by one) (knows_by two)
  sharing_keeps_missed one two asked reason misses other reply has =
      landed_in one.pass.now.seen two.pass.now.seen misses.does.steps.starts other reply has
