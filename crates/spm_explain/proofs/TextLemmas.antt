-- The texts so far: one more item of a list, and one more line.
use Rattle.std.proofs.Common.{◌≡◌, ◌∙◌, ℕ, ◌+◌, ◌<◌, ◌==◌, List, [], ◌∷◌, ◌++◌, length, get_or, take, drop, slice_get, Some, codes, sym, ap, ne_eqb, arith, if◌then◌else◌}
use Rattle.std.specs.List.{flat_map, join_by}
use Rattle.std.proofs.lemmas.List.{append_assoc, append-nil, drop_more, flat_map_more, get_or-map, get_or_default, length-map, length-take-le, take_more}
use Rattle.std.proofs.lemmas.Option.{slice_get-get_or}
use Rattle.pub_set.specs.Runs.{runs_of}
use Rattle.pub_term.specs.Node.{node_text}
use Rattle.pub_term.specs.declared.node.NodeName.{NodeName}
use Rattle.pub_term.specs.declared.term.Incompat.{Incompat}
use Rattle.pub_term.specs.declared.term.Term.{Term}
use Rattle.pub_proof.specs.Checks.{terms_of}
use Rattle.pub_proof.specs.ProofText.{name_text}
use Rattle.pub_proof.specs.declared.derivation.Line.{Line}
use Rattle.spm_explain.specs.DerivationText.{line_text, lines_text, run_text, term_text}

-- a joined list with one more item
join_by-behind : {X : Type 0} (f : X → List ℕ) (mark : List ℕ) (xs : List X) (x : X)
    → join_by f mark (xs ++ x ∷ []) ≡ join_by f mark xs ++ ((if length xs == 0 then [] else mark) ++ f x)
join_by-behind f mark [] x = append-nil (f x)
join_by-behind f mark (first ∷ xs) x =
    sym (flat_map_more (λ y. mark ++ f y) (f first) xs x)
    ∙ ap (λ b. (f first ++ flat_map (λ y. mark ++ f y) xs) ++ ((if b then [] else mark) ++ f x))
    (sym (ne_eqb (length (first ∷ xs)) 0 (omega arith)))

-- the items so far, and one more
pub join_by-more : {X : Type 0} (f : X → List ℕ) (mark : List ℕ) (xs : List X) (i : ℕ) (d : X) → i < length xs
    → join_by f mark (take (i + 1) xs) ≡ join_by f mark (take i xs) ++ ((if i == 0 then [] else mark) ++ f (get_or xs i d))
join_by-more f mark xs i d within =
    ap (join_by f mark) (take_more xs i d within)
    ∙ join_by-behind f mark (take i xs) (get_or xs i d)
    ∙ ap (λ n. join_by f mark (take i xs) ++ ((if n == 0 then [] else mark) ++ f (get_or xs i d)))
    (length-take-le i xs (omega arith))

-- a text with one more item, behind what stands before it
pub item_behind : (new marked old mark item initial so_far all : List ℕ) → new ≡ marked ++ item → marked ≡ old ++ mark
    → old ≡ initial ++ so_far → all ≡ so_far ++ (mark ++ item) → new ≡ initial ++ all
item_behind new marked old mark item initial so_far all pushed before invariant more =
    rw (pushed, before, invariant, more) (simp append_assoc)

-- a text with one more line
pub line_behind : (new old line rest left whole : List ℕ) → new ≡ old ++ line → left ≡ line ++ rest → old ++ left ≡ whole
    → new ++ rest ≡ whole
line_behind new old line rest left whole pushed next invariant = rw pushed (rw append_assoc (rw (← next) invariant))

-- a text with one more term: its name, a space and its runs
pub term_behind : (new named old name space runs : List ℕ) → new ≡ named ++ runs → named ≡ old ++ (name ++ space)
    → new ≡ old ++ (name ++ (space ++ runs))
term_behind new named old name space runs pushed before = rw (pushed, before) (simp append_assoc)

-- the line at a place, and those behind it
pub lines_text-next : (nodes : List NodeName) (choices : List (List (List ℕ))) (number : ℕ)
    (lines : List Line) (said : List Incompat)
    (i : ℕ) (line : Line) (incompat : Incompat) → i < length lines → i < length said
    → line ≡ get_or lines i line → incompat ≡ get_or said i incompat
    → lines_text nodes choices number (drop i lines) (drop i (terms_of said))
    ≡ line_text nodes choices number line incompat.terms
    ++ lines_text nodes choices (number + 1) (drop (i + 1) lines) (drop (i + 1) (terms_of said))
lines_text-next nodes choices number lines said i line incompat within inside at here =
    let rest = drop (i + 1) (terms_of said) in
    let there : i < length (terms_of said) = rw (length-map said (λ (other : Incompat). other.terms)) inside in
    ap (λ left. lines_text nodes choices number left (drop i (terms_of said)))
    (drop_more lines i line within ∙ ap (λ head. head ∷ drop (i + 1) lines) (sym at))
    ∙ ap (lines_text nodes choices number (line ∷ drop (i + 1) lines))
    (drop_more (terms_of said) i incompat.terms there
    ∙ ap (λ head. head ∷ rest)
    (get_or-map (λ (other : Incompat). other.terms) said i incompat incompat.terms inside
    ∙ ap (λ (other : Incompat). other.terms) (sym here)))

-- the name of the node at a place
pub name_text-at : (nodes : List NodeName) (i : ℕ) (name : NodeName) → i < length nodes → name ≡ get_or nodes i name
    → name_text (slice_get nodes i) ≡ node_text name
name_text-at nodes i name within at = ap name_text (slice_get-get_or nodes i name within ∙ ap Some (sym at))

-- the text of a term by the name and the texts that stand at its node
pub term_text-at : (nodes : List NodeName) (choices : List (List (List ℕ))) (term : Term) (name : NodeName)
    (texts : List (List ℕ)) → term.node < length nodes → name ≡ get_or nodes term.node name
    → term.node < length choices → texts ≡ get_or choices term.node texts
    → term_text nodes choices term ≡ node_text name ++ (codes " " ++ join_by (run_text texts) (codes "|") (runs_of term.choices))
term_text-at nodes choices term name texts within at inside here =
    ap (λ text. text ++ (codes " " ++ join_by (run_text (get_or choices term.node [])) (codes "|") (runs_of term.choices)))
    (name_text-at nodes term.node name within at)
    ∙ ap (λ all. node_text name ++ (codes " " ++ join_by (run_text all) (codes "|") (runs_of term.choices)))
    (get_or_default choices term.node [] texts inside ∙ sym here)
