-- Bytes that end inside a head: two line feeds, or a colon and two line feeds, end it, if its start line stands there.
use Rattle.std.proofs.Common.{◌≡◌, ℕ, Bool, true, take, List, [], ◌∷◌, ◌++◌, length, length-append, refl, sym, ap, ◌∙◌, subst, arith, append_assoc, append-nil, inl, inr, flat_map}
use Rattle.std.specs.Prelude.{◌⊎◌, All, codes}
use Rattle.std.proofs.lemmas.List.Elements.{All-cons, All-nil, All-head, All-tail, All-take}
use Rattle.std.proofs.lemmas.List.{take_at}
use Rattle.httparse.specs.Grammar.{AllPass, IsToken, is_token_byte, is_value_byte, LineEnd, crlf, lf, print_end, Field, IsField, print_field, print_section, ReadsSection}
use Rattle.httparse.proofs.PieceLemmas.{print_field-append}
use Rattle.spm_http.proofs.Meet.{Meets, meets}

-- one more byte, and what follows it, make the text a section, and more than they are the bytes that are tried
pub record Finishes (text : List ℕ) : Type 0 where
  pub fields : List Field
  pub last : LineEnd
  pub next : ℕ
  pub more : List ℕ
  pub rest : List ℕ
  pub reads : ReadsSection (text ++ next ∷ more) fields last []
  pub tried : ((next ∷ more) ++ rest ≡ codes "\n\n") ⊎ ((next ∷ more) ++ rest ≡ codes ":\n\n")

-- what is so of all bytes is so of those at the front
All-front : (test : ℕ → Bool) (front back all : List ℕ) → AllPass test all → all ≡ front ++ back → AllPass test front
All-front test front back all each e =
    subst (AllPass test) (ap (λ (t : List ℕ). take (length front) t) e ∙ take_at front back (length front) refl)
    (All-take (λ b. test b ≡ true) (length front) all each)

-- nothing of a line has begun: a line feed ends the section
at_line : Finishes []
at_line = record { fields = []; last = lf; next = 10; more = []; rest = 10 ∷ []; reads = (All-nil _, refl); tried = inl refl }

-- a return has begun the end of the section
after_return : Finishes (13 ∷ [])
after_return = record { fields = []; last = crlf; next = 10; more = []; rest = 10 ∷ []; reads = (All-nil _, refl); tried = inl refl }

-- the text and an end of a line are a field
in_value : (field : Field) (text : List ℕ) → IsField field → text ++ 10 ∷ [] ≡ print_field field → Finishes text
in_value field text is e = record {
  fields = field ∷ [];
  last = lf;
  next = 10;
  more = 10 ∷ [];
  rest = [];
  reads = (
    All-cons IsField field [] is (All-nil _),
    sym (append_assoc text (10 ∷ []) (10 ∷ [])) ∙ ap (λ (t : List ℕ). t ++ 10 ∷ []) e
        ∙ ap (λ (t : List ℕ). t ++ 10 ∷ []) (sym (append-nil (print_field field))) ∙ sym (append-nil _),
  );
  tried = inl refl;
}

-- the text, a colon and an end of a line are a field
in_name : (field : Field) (text : List ℕ) → IsField field → text ++ 58 ∷ 10 ∷ [] ≡ print_field field → Finishes text
in_name field text is e = record {
  fields = field ∷ [];
  last = lf;
  next = 58;
  more = 10 ∷ 10 ∷ [];
  rest = [];
  reads = (
    All-cons IsField field [] is (All-nil _),
    sym (append_assoc text (58 ∷ 10 ∷ []) (10 ∷ [])) ∙ ap (λ (t : List ℕ). t ++ 10 ∷ []) e
        ∙ ap (λ (t : List ℕ). t ++ 10 ∷ []) (sym (append-nil (print_field field))) ∙ sym (append-nil _),
  );
  tried = inr refl;
}

-- what ends the rest ends the whole
behind_field : (field : Field) (text rest : List ℕ) → IsField field → text ≡ print_field field ++ rest → Finishes rest → Finishes text
behind_field field text rest is e f = record {
  fields = field ∷ f.fields;
  last = f.last;
  next = f.next;
  more = f.more;
  rest = f.rest;
  reads = (
    All-cons IsField field f.fields is f.reads.0,
    ap (λ (t : List ℕ). t ++ f.next ∷ f.more) e ∙ append_assoc (print_field field) rest (f.next ∷ f.more)
        ∙ ap (λ (t : List ℕ). print_field field ++ t) (f.reads.1 ∙ append-nil _)
        ∙ sym (append_assoc (print_field field) (flat_map print_field f.fields) (print_end f.last)) ∙ sym (append-nil _),
  );
  tried = f.tried;
}

-- a name without its colon
name_only : (name : List ℕ) → IsToken name → Finishes name
name_only name is =
    let field : Field = record { name = name; raw = []; end = lf } in
    in_name field name (record { name = is; raw = All-nil _ }) (sym (sym (append-nil _) ∙ print_field-append field []))

-- some of a name
begun_name : (text : List ℕ) (next : ℕ) (between name : List ℕ) → AllPass is_token_byte name → name ≡ text ++ next ∷ between
    → Finishes text
begun_name [] next between name all e = at_line
begun_name (b ∷ text) next between name all e =
    name_only (b ∷ text) (omega arith, All-front is_token_byte (b ∷ text) (next ∷ between) name all e)

-- a name, its colon and some of the value
begun_value : (name value text : List ℕ) → IsToken name → AllPass is_value_byte value → text ≡ name ++ 58 ∷ value → Finishes text
begun_value name value text is all e =
    let field : Field = record { name = name; raw = value; end = lf } in
    in_value field text (record { name = is; raw = all })
    (ap (λ (t : List ℕ). t ++ 10 ∷ []) e ∙ append_assoc name (58 ∷ value) (10 ∷ [])
    ∙ sym (sym (append-nil _) ∙ print_field-append field []))

-- and all of the value with a return
begun_end : (end : LineEnd) (text : List ℕ) (next : ℕ) (between : List ℕ) → print_end end ≡ text ++ next ∷ between
    → (text ≡ []) ⊎ ((text ≡ 13 ∷ []) × (end ≡ crlf))
begun_end end [] next between e = inl refl
begun_end crlf (b ∷ []) next between e = inr (cc e, refl)
begun_end crlf (b ∷ c ∷ text) next between e = absurd (omega (arith, ap length e, length-append text (next ∷ between)))
begun_end lf (b ∷ text) next between e = absurd (omega (arith, ap length e, length-append text (next ∷ between)))

-- a name, its colon, the value and a return
value_and_return : (name raw text : List ℕ) → IsToken name → AllPass is_value_byte raw → text ≡ name ++ 58 ∷ (raw ++ 13 ∷ [])
    → Finishes text
value_and_return name raw text is all e =
    let field : Field = record { name = name; raw = raw; end = crlf } in
    in_value field text (record { name = is; raw = all })
    (ap (λ (t : List ℕ). t ++ 10 ∷ []) e ∙ append_assoc name (58 ∷ (raw ++ 13 ∷ [])) (10 ∷ [])
    ∙ ap (λ (t : List ℕ). name ++ 58 ∷ t) (append_assoc raw (13 ∷ []) (10 ∷ []))
    ∙ sym (sym (append-nil _) ∙ print_field-append field []))

-- bytes that end in a field line, or behind it
module _ (field : Field) (is : IsField field) (text : List ℕ) (next : ℕ) (more behind : List ℕ)
    (whole : (rest : List ℕ) → text ≡ print_field field ++ rest → behind ≡ rest ++ next ∷ more → Finishes text) where
  -- the bytes end in the end of the line, or behind it
  at_end : (rest : List ℕ) → text ≡ field.name ++ 58 ∷ (field.raw ++ rest) → Meets rest (next ∷ more) (print_end field.end) behind
      → Finishes text
  at_end rest e (inl m) =
      whole m.0 (e ∙ ap (λ (t : List ℕ). field.name ++ 58 ∷ (field.raw ++ t)) m.1 ∙ sym (print_field-append field m.0)) m.2
  at_end rest e (inr m) = either (begun_end field.end rest m.0 m.1 m.2)
    where
      either : (rest ≡ []) ⊎ ((rest ≡ 13 ∷ []) × (field.end ≡ crlf)) → Finishes text
      either (inl none) =
          begun_value field.name field.raw text is.name is.raw
          (e ∙ ap (λ (t : List ℕ). field.name ++ 58 ∷ (field.raw ++ t)) none ∙ ap (λ (t : List ℕ). field.name ++ 58 ∷ t) (append-nil field.raw))
      either (inr return) =
          value_and_return field.name field.raw text is.name is.raw
          (e ∙ ap (λ (t : List ℕ). field.name ++ 58 ∷ (field.raw ++ t)) return.0)

  -- they end in the value, or behind it
  at_value : (rest : List ℕ) → text ≡ field.name ++ 58 ∷ rest → Meets rest (next ∷ more) field.raw (print_end field.end ++ behind)
      → Finishes text
  at_value rest e (inl m) =
      at_end m.0 (e ∙ ap (λ (t : List ℕ). field.name ++ 58 ∷ t) m.1) (meets m.0 (next ∷ more) (print_end field.end) behind (sym m.2))
  at_value rest e (inr m) =
      begun_value field.name rest text is.name (All-front is_value_byte rest (m.0 ∷ m.1) field.raw is.raw m.2) e

  -- they end before the colon, or behind it
  at_colon : (rest : List ℕ) → text ≡ field.name ++ rest → 58 ∷ (field.raw ++ (print_end field.end ++ behind)) ≡ rest ++ next ∷ more
      → Finishes text
  at_colon [] e colon = subst Finishes (sym (e ∙ append-nil field.name)) (name_only field.name is.name)
  at_colon (byte ∷ rest) e colon =
      let same : byte ≡ 58 = cc colon in
      let tail : field.raw ++ (print_end field.end ++ behind) ≡ rest ++ next ∷ more = cc colon in
      at_value rest (e ∙ ap (λ (b : ℕ). field.name ++ b ∷ rest) same)
      (meets rest (next ∷ more) field.raw (print_end field.end ++ behind) (sym tail))

  -- they end in the name, or behind it
  at_name : Meets text (next ∷ more) field.name (58 ∷ (field.raw ++ (print_end field.end ++ behind))) → Finishes text
  at_name (inl m) = at_colon m.0 m.1 m.2
  at_name (inr m) = begun_name text m.0 m.1 field.name is.name.1 m.2

  -- wherever in the line they end
  in_line : text ++ next ∷ more ≡ print_field field ++ behind → Finishes text
  in_line e = at_name (meets text (next ∷ more) field.name _ (e ∙ print_field-append field behind))

-- what more bytes make a section, two line feeds do, or a colon and two line feeds
pub finish : (fields : List Field) (last : LineEnd) (text : List ℕ) (next : ℕ) (more : List ℕ) → All IsField fields
    → text ++ next ∷ more ≡ print_section fields last → Finishes text
finish [] last text next more all e = either (begun_end last text next more (sym e))
  where
    either : (text ≡ []) ⊎ ((text ≡ 13 ∷ []) × (last ≡ crlf)) → Finishes text
    either (inl none) = subst Finishes (sym none) at_line
    either (inr return) = subst Finishes (sym return.0) after_return
finish (field ∷ fields) last text next more all e =
    let is : IsField field = All-head IsField field fields all in
    in_line field is text next more (print_section fields last)
    (λ rest front back. behind_field field text rest is front
    (finish fields last rest next more (All-tail IsField field fields all) (sym back)))
    (e ∙ append_assoc (print_field field) (flat_map print_field fields) (print_end last))
