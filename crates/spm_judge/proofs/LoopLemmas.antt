-- The steps of loops.
use Rattle.std.proofs.Common.{◌≡◌, ◌<◌, ◌≤◌, ◌+◌, ℕ, List, length, drop, get_or, sym, ap, ◌∙◌, subst, arith}
use Rattle.std.specs.List.Sorted.{IsStrictlySortedBy}
use Rattle.spm_manifest.specs.declared.dump.Contents.{Contents}
use Rattle.pub_term.specs.Node.{node_cmp}
use Rattle.pub_term.specs.declared.node.NodeName.{NodeName}
use Rattle.pub_facts.proofs.ListSteps.{drop_next}
use Rattle.pub_facts.specs.Catalogue.{target_of}
use Rattle.pub_plain.specs.Answers.{Answers, lookups_by}
use Rattle.spm_judge.specs.Heard.{contents_in}
use Rattle.spm_judge.specs.On.{AreOn}
use Rattle.spm_judge.specs.Spread.{each_put, opening, spread}
use Rattle.spm_judge.specs.Steps.{world_heard}
use Rattle.spm_judge.specs.declared.pinned.Pinned.{Pinned}
use Rattle.spm_judge.proofs.HeardLemmas.{IsSpreading, opening_spreads, pass_ends, pass_spreads}
use Rattle.spm_judge.proofs.MovesLemmas.{left}
use Rattle.spm_judge.proofs.PassLemmas.{all_nodes, pass_moves}

-- one more thing puts what it puts
pub each_step : {X : Type 0} (step : List NodeName → X → List NodeName) (xs : List X) (i : ℕ) (x : X) (before next all : List NodeName) → i < length xs
    → x ≡ get_or xs i x → next ≡ step before x → each_put step before (drop i xs) ≡ all → each_put step next (drop (i + 1) xs) ≡ all
each_step step xs i x before next all below is puts so_far =
    ap (λ on. each_put step on (drop (i + 1) xs)) puts ∙ (ap (each_put step before) (sym (drop_next xs i x below (sym is))) ∙ so_far)

-- what is at most another, and isn't it, is less
more : (a b : ℕ) → a ≤ b → (b ≡ a → ⊥) → a < b
more a b le differs = omega (arith, le, differs)

-- ---- passes

module _ (root : Contents) (asked : List (List ℕ)) (answers : Answers) (pinned : List Pinned) where
  -- before the first pass
  pub opened : (on : List NodeName) → on ≡ opening asked → IsSpreading (world_heard root asked answers pinned) on
  opened on is = subst (IsSpreading (world_heard root asked answers pinned)) (sym is) (opening_spreads (world_heard root asked answers pinned))

  module _ (on after : List NodeName) (is : after ≡ spread (target_of (lookups_by answers)) (contents_in root pinned) pinned on) where
    -- after a pass
    pub passed_on : IsSpreading (world_heard root asked answers pinned) on → IsSpreading (world_heard root asked answers pinned) after
    passed_on s =
        subst (IsSpreading (world_heard root asked answers pinned)) (sym is) (pass_spreads (world_heard root asked answers pinned) pinned on s)

    -- a pass that makes no more leaves all as it was
    unchanged : length after ≡ length on → after ≡ on
    unchanged same =
        let moves = pass_moves (target_of (lookups_by answers)) (contents_in root pinned) pinned on in
        let long = ap length is in is ∙ moves.same (omega (arith, long, same))

    -- then all nodes are on
    pub ended : (before now : ℕ) → before ≡ length on → now ≡ length after → now ≡ before
        → IsSpreading (world_heard root asked answers pinned) on → IsStrictlySortedBy node_cmp after → AreOn (world_heard root asked answers pinned) after
    ended before now was are same s ordered =
        let one : after ≡ on = unchanged (omega (arith, was, are, same)) in
        pass_ends root asked answers pinned after (passed_on s) ordered
        (ap (spread (target_of (lookups_by answers)) (contents_in root pinned) pinned) one ∙ sym is)

    -- else fewer are left
    pub falls : (before now : ℕ) → before ≡ length on → now ≡ length after → (now ≡ before → ⊥)
        → left (all_nodes (target_of (lookups_by answers)) (contents_in root pinned) pinned) after
        < left (all_nodes (target_of (lookups_by answers)) (contents_in root pinned) pinned) on
    falls before now was are differs =
        let universe = all_nodes (target_of (lookups_by answers)) (contents_in root pinned) pinned in
        let moves = pass_moves (target_of (lookups_by answers)) (contents_in root pinned) pinned on in
        let longer : length on ≤ length after = subst (λ l. length on ≤ length l) (sym is) moves.longer in
        let fewer : left universe after + length after ≤ left universe on + length on =
        subst (λ l. left universe l + length l ≤ left universe on + length on) (sym is) moves.fewer in
        let apart : length after ≡ length on → ⊥ = λ e. differs (omega (arith, was, are, e)) in
        omega (arith, longer, fewer, more (length on) (length after) longer apart)
