use Rattle.std.proofs.Common.{ℕ, List, subst, arith}
use Rattle.std.proofs.lemmas.List.{take_all}
use Rattle.httparse.specs.Grammar.{HasNoRequest, MayBecomeRequest}
use Rattle.spm_http.proofs.Fronts.{no_head}
use Rattle.spm_http.proofs.Heads.{unfinished_is}
use Rattle.spm_http.proofs.request_head.unfinished.Goals as goal

pub returns-then-bytes-ge-MAX_HEAD : goal.returns-then-bytes-ge-MAX_HEAD
returns-then-bytes-ge-MAX_HEAD c =
    (no_head c.args.bytes.now c.requires.none, λ short. absurd (omega (arith, short, c.if-bytes-ge-MAX_HEAD.true)))

pub returns-in-Ok-true : goal.returns-in-Ok-true
returns-in-Ok-true c = (no_head c.args.bytes.now c.requires.none, λ short. c.in-Ok-true.ensures.full c.in-Ok-true.field-0-test)

pub returns-in-Ok-false : goal.returns-in-Ok-false
returns-in-Ok-false c =
    let whole = take_all 65536 c.args.bytes.now (omega (arith, c.if-bytes-ge-MAX_HEAD.false)) in (
      no_head c.args.bytes.now c.requires.none,
      omega (arith, c.if-bytes-ge-MAX_HEAD.false),
      unfinished_is c.args.bytes.now
          (subst (λ (t : List ℕ). HasNoRequest t) whole c.requires.none)
          (subst (λ (t : List ℕ). MayBecomeRequest t) whole c.requires.may)
          (c.in-Ok-false.ensures.in_value c.in-Ok-false.field-0-test) (c.in-Ok-false.ensures.in_name c.in-Ok-false.field-0-test),
    )
