-- The links, parted.
use Rattle.std.proofs.Common.{◌≡◌, ℕ, ◌+◌, ◌-◌, ◌≤◌, List, ◌++◌, drop, length, take, sym, ap, ap₂, ◌∙◌, append_assoc, arith}
use Rattle.std.proofs.Math.Seq.{drop-append-add, drop-append_seam, take-append-add, take-append_seam}
use Rattle.std.proofs.lemmas.List.{length-drop, length-take-le, take-append-drop}
use Rattle.spm_run.specs.Links.{turned}

sixty_four : (roots : ℕ) → roots ≤ 64 → roots + (64 - roots) ≡ 64
sixty_four roots few = omega (arith, few)

module _ {L : Type 0} where
  -- the four parts: the links of sessions and those behind them, and the links of workers and those behind them
  pub record AreParts (roots workers : ℕ) (used idle crew rest links : List L) : Type 0 where
    pub are : links ≡ used ++ (idle ++ (crew ++ rest))
    pub of_roots : length used ≡ roots
    pub of_sessions : roots + length idle ≡ 64
    pub of_workers : length crew ≡ workers

  turn_parts : (used idle crew rest : List L)
      → turned (length used) (length used + length idle) (length used + length idle + length crew) (used ++ (idle ++ (crew ++ rest)))
      ≡ used ++ ((crew ++ idle) ++ rest)
  turn_parts used idle crew rest =
      let behind = idle ++ (crew ++ rest) in
      let links = used ++ behind in
      let u = length used in
      let i = length idle in
      let c = length crew in
      let first : u + i - u ≡ i = omega (arith) in
      let both : u + i + c - u ≡ i + c = omega (arith) in
      let body = λ (a d : List L) (x y : ℕ). a ++ ((drop x (take y d) ++ take x (take y d)) ++ drop y d) in
      ap (λ (a : List L). body a (drop u links) (u + i - u) (u + i + c - u)) (take-append_seam used behind)
      ∙ ap (λ (d : List L). body used d (u + i - u) (u + i + c - u)) (drop-append_seam used behind)
      ∙ ap (λ (x : ℕ). body used behind x (u + i + c - u)) first
      ∙ ap (λ (y : ℕ). body used behind i y) both
      ∙ ap (λ (p : List L). used ++ ((drop i p ++ take i p) ++ drop (i + c) behind))
      (take-append-add idle (crew ++ rest) c ∙ ap (λ (p : List L). idle ++ p) (take-append_seam crew rest))
      ∙ ap (λ (p : List L). used ++ ((drop i (idle ++ crew) ++ take i (idle ++ crew)) ++ p))
      (drop-append-add idle (crew ++ rest) c ∙ drop-append_seam crew rest)
      ∙ ap (λ (p : List L). used ++ ((p ++ take i (idle ++ crew)) ++ rest)) (drop-append_seam idle crew)
      ∙ ap (λ (p : List L). used ++ ((crew ++ p) ++ rest)) (take-append_seam idle crew)

  -- the links are of four parts
  pub parts_of : (roots workers : ℕ) (links : List L) → length links ≡ 80 → roots ≤ 64 → workers ≤ 16
      → AreParts roots workers (take roots links) (take (64 - roots) (drop roots links)) (take workers (drop (64 - roots) (drop roots links)))
      (drop workers (drop (64 - roots) (drop roots links))) links
  parts_of roots workers links all few fewer =
      let behind = drop roots links in
      let last = drop (64 - roots) behind in
      let of_behind = length-drop roots links in
      let of_last = length-drop (64 - roots) behind in
      record {
        are = sym (take-append-drop roots links)
            ∙ ap (λ (p : List L). take roots links ++ p) (sym (take-append-drop (64 - roots) behind)
            ∙ ap (λ (p : List L). take (64 - roots) behind ++ p) (sym (take-append-drop workers last)));
        of_roots = length-take-le roots links (omega (arith, all, few));
        of_sessions = ap (λ (n : ℕ). roots + n) (length-take-le (64 - roots) behind (omega (arith, all, few, of_behind))) ∙ sixty_four roots few;
        of_workers = length-take-le workers last (omega (arith, all, few, fewer, of_behind, of_last));
      }

  module _ (roots workers : ℕ) (used idle crew rest links : List L) (parts : AreParts roots workers used idle crew rest links) where
    middle_is : length used + length idle ≡ 64
    middle_is = ap (λ (n : ℕ). n + length idle) parts.of_roots ∙ parts.of_sessions

    last_is : length used + length idle + length crew ≡ 64 + workers
    last_is = ap₂ (λ (m n : ℕ). m + n) middle_is parts.of_workers

    -- turned, those of the workers stand behind those of the sessions
    pub turned_is : turned roots 64 (64 + workers) links ≡ used ++ ((crew ++ idle) ++ rest)
    turned_is =
        ap (λ (l : List L). turned roots 64 (64 + workers) l) parts.are
        ∙ ap (λ (s : ℕ). turned s 64 (64 + workers) (used ++ (idle ++ (crew ++ rest)))) (sym parts.of_roots)
        ∙ ap₂ (λ (m e : ℕ). turned (length used) m e (used ++ (idle ++ (crew ++ rest)))) (sym middle_is) (sym last_is)
        ∙ turn_parts used idle crew rest

  -- turned back
  pub turned_back : (roots workers : ℕ) (used idle crew rest : List L) → length used ≡ roots → roots + length idle ≡ 64 → length crew ≡ workers
      → turned roots (roots + workers) (64 + workers) (used ++ ((crew ++ idle) ++ rest)) ≡ used ++ (idle ++ (crew ++ rest))
  turned_back roots workers used idle crew rest of_roots of_sessions of_workers =
      let together = ap (λ (p : List L). used ++ p) (append_assoc crew idle rest) in
      let apart = ap (λ (p : List L). used ++ p) (append_assoc idle crew rest) in
      ap (λ (l : List L). turned roots (roots + workers) (64 + workers) l) together
      ∙ ap (λ (s : ℕ). turned s (roots + workers) (64 + workers) (used ++ (crew ++ (idle ++ rest)))) (sym of_roots)
      ∙ ap₂ (λ (m e : ℕ). turned (length used) m e (used ++ (crew ++ (idle ++ rest))))
      (sym (ap₂ (λ (m n : ℕ). m + n) of_roots of_workers)) (the_end)
      ∙ turn_parts used crew idle rest
      ∙ apart
    where
      the_end : 64 + workers ≡ length used + length crew + length idle
      the_end = omega (arith, of_roots, of_sessions, of_workers)

  -- turned and turned back, they are as before
  pub turned_twice : (roots workers : ℕ) (links : List L) → length links ≡ 80 → roots ≤ 64 → workers ≤ 16
      → turned roots (roots + workers) (64 + workers) (turned roots 64 (64 + workers) links) ≡ links
  turned_twice roots workers links all few fewer =
      let behind = drop roots links in
      let last = drop (64 - roots) behind in
      let parts = parts_of roots workers links all few fewer in
      ap (λ (l : List L). turned roots (roots + workers) (64 + workers) l)
      (turned_is roots workers (take roots links) (take (64 - roots) behind) (take workers last) (drop workers last) links parts)
      ∙ turned_back roots workers (take roots links) (take (64 - roots) behind) (take workers last) (drop workers last) parts.of_roots parts.of_sessions parts.of_workers
      ∙ sym parts.are

-- a list put over another one that is as long
pub whole_again : {X : Type 0} (xs ys : List X) (count : ℕ) → count ≡ length ys → length xs ≡ length ys → take count (xs ++ drop (length xs) ys) ≡ xs
whole_again {X} xs ys count all as_many =
    ap (λ (n : ℕ). take n (xs ++ drop (length xs) ys)) (all ∙ sym as_many) ∙ take-append_seam xs (drop (length xs) ys)
