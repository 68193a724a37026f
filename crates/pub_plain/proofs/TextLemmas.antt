-- How many choices have texts.
use Rattle.std.proofs.Common.{◌≡◌, ℕ, List, [], ◌∷◌, length, map, suc, refl, ap, ap₂}
use Rattle.std.proofs.lemmas.List.{length-map}
use Rattle.pub_facts.specs.Catalogue.{Lookups}
use Rattle.pub_facts.specs.Facts.{size_of}
use Rattle.pub_facts.specs.Numbered.{sizes_of}
use Rattle.pub_term.specs.declared.node.NodeName.{NodeName}
use Rattle.pub_term.specs.declared.node.NodeName.TheVariants.{Root, RootTrait, Package, PackageTrait}
use Rattle.spm_version.specs.Release.{parts_text}
use Rattle.pub_plain.specs.Derivation.{choice_texts, ordered, texts_of}

-- a node has as many texts as choices
length-texts_of : (l : Lookups) (node : NodeName) → length (texts_of l node) ≡ size_of l node
length-texts_of l Root = refl
length-texts_of l (RootTrait name) = refl
length-texts_of l (Package identity) = ap suc (length-map (l.list identity) parts_text)
length-texts_of l (PackageTrait identity name) = refl

-- and so has each of these nodes
lengths_same : (l : Lookups) (nodes : List NodeName) → map length (map (texts_of l) nodes) ≡ sizes_of l nodes
lengths_same l [] = refl
lengths_same l (node ∷ nodes) = ap₂ (λ (n : ℕ) (ns : List ℕ). n ∷ ns) (length-texts_of l node) (lengths_same l nodes)

-- the texts of choices are as many as the choices of the nodes in node order
pub lengths-choice_texts : (l : Lookups) (names : List NodeName) → map length (choice_texts l names) ≡ sizes_of l (ordered names)
lengths-choice_texts l names = lengths_same l (ordered names)
