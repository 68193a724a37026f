-- Reading a document item by item. A reading is a value, or the first fault: its kind, and its place as
-- the path from the item that is read, which is empty for that item itself.
use Rattle.std.specs.Prelude.{◌≡◌, ℕ, List, [], ◌∷◌, ◌++◌, Option, Some, None, Result, Ok, Err}
use Rattle.std.specs.Fmt.{decimal}
use Rattle.spm_version.specs.declared.kind.Kind.{Kind}
use Rattle.spm_json.specs.declared.fault.ReadFault.{ReadFault}
use Rattle.spm_json.specs.declared.fault.ReadFault.TheVariants.{At, Memory}

pub record Fault : Type 0 where
  pub place : List ℕ
  pub kind : Kind

abbrev pub Reading : Type 0 → Type 0
Reading A = Result A Fault

-- a fault of the item that is read
abbrev pub fault_here : {A : Type 0} → Kind → Reading A
fault_here kind = Err (record { place = []; kind = kind })

-- one reading after another: the first fault decides
infixl 10 ◌>>=◌
abbrev pub ◌>>=◌ : {A B : Type 0} → Reading A → (A → Reading B) → Reading B
(Ok x) >>= f = f x
(Err fault) >>= f = Err fault

-- the value, or else a fault of this kind
abbrev pub or_fault : {A : Type 0} → Kind → Option A → Reading A
or_fault kind (Some x) = Ok x
or_fault kind None = fault_here kind

-- a fault, seen from the item whose member `key` has it
abbrev pub under_key : List ℕ → Fault → Fault
under_key key fault = record { place = 47 ∷ (key ++ fault.place); kind = fault.kind }

-- a fault under a key that is foreign text: its place is the object's
abbrev pub under_foreign_key : Fault → Fault
under_foreign_key fault = record { place = []; kind = fault.kind }

-- the reading of a member, as part of its object
abbrev pub within : {A : Type 0} → List ℕ → Reading A → Reading A
within key (Ok x) = Ok x
within key (Err fault) = Err (under_key key fault)

-- the reading of the item at this place of a list, as part of the list
abbrev pub at_index : {A : Type 0} → ℕ → Reading A → Reading A
at_index index reading = within (decimal index) reading

-- the reading of a member with a foreign key, as part of its object
abbrev pub at_foreign_key : {A : Type 0} → Reading A → Reading A
at_foreign_key (Ok x) = Ok x
at_foreign_key (Err fault) = Err (under_foreign_key fault)

-- the path of a place from the document's root
abbrev pub place_text : List ℕ → List ℕ
place_text [] = 47 ∷ []
place_text (byte ∷ path) = byte ∷ path

-- the reading of a document, with places from its root
abbrev pub in_document : {A : Type 0} → Reading A → Reading A
in_document (Ok x) = Ok x
in_document (Err fault) = Err (record { place = place_text fault.place; kind = fault.kind })

-- what a function answered is what the reading gives, unless memory ran out
abbrev pub Fails : {A : Type 0} → ReadFault → Reading A → Type 0
Fails (At place kind) reading = reading ≡ Err (record { place = place; kind = kind })
Fails Memory reading = Unit {0}

abbrev pub GivesBy : {A B : Type 0} → (A → B) → Result A ReadFault → Reading B → Type 0
GivesBy view (Ok x) reading = reading ≡ Ok (view x)
GivesBy view (Err e) reading = Fails e reading

abbrev pub Gives : {A : Type 0} → Result A ReadFault → Reading A → Type 0
Gives (Ok x) reading = reading ≡ Ok x
Gives (Err e) reading = Fails e reading
