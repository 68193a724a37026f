-- What holds of each value that is read.
use Rattle.std.proofs.Common.{◌≡◌, ℕ, List, Option, Some, None, Ok, Err, subst}
use Rattle.serde_json.specs.Data.{Data}
use Rattle.spm_json.specs.Field.{required_in}
use Rattle.spm_json.specs.Reading.{Reading, at_foreign_key, in_document, within, ◌>>=◌}

-- the value that is read, if one is, is so
abbrev pub IfReads : {A : Type 0} → (A → Type 0) → Reading A → Type 0
IfReads P (Ok x) = P x
IfReads P (Err fault) = Unit {0}

-- one reading after another, of which the second needs what the first gives
pub both : {A B : Type 0} (P : A → Type 0) (Q : B → Type 0) (reading : Reading A) (next : A → Reading B) → IfReads P reading → ((x : A) → P x → IfReads Q (next x)) → IfReads Q (reading >>= next)
both P Q (Ok x) next first onward = onward x first
both P Q (Err fault) next first onward = tt

-- one reading after another, of which the first tells nothing
pub next_alone : {A B : Type 0} (Q : B → Type 0) (reading : Reading A) (next : A → Reading B) → ((x : A) → IfReads Q (next x)) → IfReads Q (reading >>= next)
next_alone Q (Ok x) next onward = onward x
next_alone Q (Err fault) next onward = tt

-- the reading of a member
pub within_a_member : {A : Type 0} (P : A → Type 0) (key : List ℕ) (reading : Reading A) → IfReads P reading → IfReads P (within key reading)
within_a_member P key (Ok x) h = h
within_a_member P key (Err fault) h = tt

-- the reading of a member that has to be there
pub where_it_is : {A : Type 0} (P : A → Type 0) (reading : Data → Reading A) (found : Option Data) → ((d : Data) → IfReads P (reading d)) → IfReads P (required_in reading found)
where_it_is P reading (Some d) h = h d
where_it_is P reading None h = tt

-- the reading of a member under foreign text
pub under_a_foreign_key : {A : Type 0} (P : A → Type 0) (reading : Reading A) → IfReads P reading → IfReads P (at_foreign_key reading)
under_a_foreign_key P (Ok x) h = h
under_a_foreign_key P (Err fault) h = tt

-- the reading of a document
pub in_the_document : {A : Type 0} (P : A → Type 0) (reading : Reading A) → IfReads P reading → IfReads P (in_document reading)
in_the_document P (Ok x) h = h
in_the_document P (Err fault) h = tt

-- what holds of the value that is read
pub of_the_value : {A : Type 0} (P : A → Type 0) (reading : Reading A) (x : A) → IfReads P reading → reading ≡ Ok x → P x
of_the_value P reading x h is = subst (IfReads P) is h

-- what follows from what holds
pub weaker : {A : Type 0} (P Q : A → Type 0) (reading : Reading A) → ((x : A) → P x → Q x) → IfReads P reading → IfReads Q reading
weaker P Q (Ok x) follows h = follows x h
weaker P Q (Err fault) follows h = tt
