-- A head as its start line and its section, and the bytes that end inside one.
use Rattle.std.proofs.Common.{◌≡◌, ℕ, ◌≤◌, List, [], ◌∷◌, ◌++◌, length, sym, ap, ◌∙◌, subst, arith, append_assoc, append-nil, inl, inr}
use Rattle.std.specs.Prelude.{◌⊎◌, All, codes}
use Rattle.std.proofs.lemmas.List.Elements.{All-nil}
use Rattle.httparse.specs.Grammar.{LineEnd, lf, print_end, print_blank, print_version, Field, IsField, print_section, RequestHead, IsRequestHead, print_request, ReadsRequest, HasNoRequest, MayBecomeRequest, EndsInTarget}
use Rattle.httparse.proofs.GrammarLemmas.{print_request-append, ReadsRequest-append}
use Rattle.spm_http.specs.Request.{IsProperPrefix}
use Rattle.spm_http.specs.Parts.{HasFewFields}
use Rattle.spm_http.proofs.Meet.{Meets, meets}
use Rattle.spm_http.proofs.Finish.{Finishes, finish}

-- the blank lines and the start line
abbrev pub start_bytes : RequestHead → List ℕ
start_bytes h = print_blank h.blank ++ (h.method ++ 32 ∷ (h.target ++ 32 ∷ (print_version h.minor ++ print_end h.line_end)))

-- a head is its start and its section
pub print_head : (h : RequestHead) (rest : List ℕ) → print_request h ++ rest ≡ start_bytes h ++ (print_section h.fields h.last ++ rest)
print_head h rest =
    print_request-append h rest
    ∙ regroup (print_blank h.blank) h.method h.target (print_version h.minor) (print_end h.line_end) (print_section h.fields h.last ++ rest)
  where
    regroup : (a b c d e r : List ℕ)
        → a ++ (b ++ 32 ∷ (c ++ 32 ∷ (d ++ (e ++ r)))) ≡ (a ++ (b ++ 32 ∷ (c ++ 32 ∷ (d ++ e)))) ++ r
    regroup a b c d e r = simp append_assoc

-- the same start line with another section
abbrev pub with_section : RequestHead → List Field → LineEnd → RequestHead
with_section h fields last = record h { fields = fields; last = last }

-- a start and a section are a head
pub reads_with : (h : RequestHead) (fields : List Field) (last : LineEnd) (text : List ℕ) → IsRequestHead h → All IsField fields
    → text ≡ start_bytes h ++ print_section fields last → ReadsRequest text (with_section h fields last) []
reads_with h fields last text is all e = (
  record { method = is.method; target = is.target; target_text = is.target_text; minor = is.minor; fields = all },
  sym (print_head (with_section h fields last) [] ∙ ap (λ (t : List ℕ). start_bytes h ++ t) (append-nil _) ∙ sym e),
)

-- more bytes make these a head: then they are so with few fields
prefix : (bytes : List ℕ) (next : ℕ) (more : List ℕ) (h : RequestHead) → IsRequestHead h
    → HasFewFields (bytes ++ codes "\n\n") → HasFewFields (bytes ++ codes ":\n\n")
    → Meets bytes (next ∷ more) (start_bytes h) (print_section h.fields h.last) → IsProperPrefix bytes
prefix bytes next more h is few few_in_name (inr m) = record {
  next = m.0;
  more = m.1 ++ 10 ∷ [];
  head = with_section h [] lf;
  reads = reads_with h [] lf _ is (All-nil _)
      (sym (append_assoc bytes (m.0 ∷ m.1) (10 ∷ [])) ∙ ap (λ (t : List ℕ). t ++ 10 ∷ []) (sym m.2));
  fields = omega arith;
}
prefix bytes next more h is few few_in_name (inl m) =
    let f : Finishes m.0 = finish h.fields h.last m.0 next more is.fields (sym m.2) in
    let e : bytes ++ f.next ∷ f.more ≡ start_bytes h ++ print_section f.fields f.last =
    ap (λ (t : List ℕ). t ++ f.next ∷ f.more) m.1 ∙ append_assoc (start_bytes h) m.0 (f.next ∷ f.more)
    ∙ ap (λ (t : List ℕ). start_bytes h ++ t) (f.reads.1 ∙ append-nil _) in
    let reads : ReadsRequest (bytes ++ f.next ∷ f.more) (with_section h f.fields f.last) [] =
    reads_with h f.fields f.last _ is f.reads.0 e in
    record {
      next = f.next;
      more = f.more;
      head = with_section h f.fields f.last;
      reads = reads;
      fields = either f.fields f.last f.next f.more f.rest reads f.tried;
    }
  where
    tries : (fields : List Field) (last : LineEnd) (x : ℕ) (xs rest end : List ℕ)
        → ReadsRequest (bytes ++ x ∷ xs) (with_section h fields last) [] → (x ∷ xs) ++ rest ≡ end
        → HasFewFields (bytes ++ end) → length fields ≤ 64
    tries fields last x xs rest end reads e all_few =
        all_few (with_section h fields last) rest
        (subst (λ (t : List ℕ). ReadsRequest t (with_section h fields last) rest)
        (append_assoc bytes (x ∷ xs) rest ∙ ap (λ (t : List ℕ). bytes ++ t) e)
        (ReadsRequest-append (bytes ++ x ∷ xs) (with_section h fields last) [] rest reads))

    either : (fields : List Field) (last : LineEnd) (x : ℕ) (xs rest : List ℕ)
        → ReadsRequest (bytes ++ x ∷ xs) (with_section h fields last) []
        → ((x ∷ xs) ++ rest ≡ codes "\n\n") ⊎ ((x ∷ xs) ++ rest ≡ codes ":\n\n") → length fields ≤ 64
    either fields last x xs rest reads (inl e) = tries fields last x xs rest (codes "\n\n") reads e few
    either fields last x xs rest reads (inr e) = tries fields last x xs rest (codes ":\n\n") reads e few_in_name

-- bytes that are no head yet are told as unfinished rightly
pub unfinished_is : (bytes : List ℕ) → HasNoRequest bytes → MayBecomeRequest bytes
    → HasFewFields (bytes ++ codes "\n\n") → HasFewFields (bytes ++ codes ":\n\n")
    → IsProperPrefix bytes ⊎ EndsInTarget bytes
unfinished_is bytes none (inr target) few few_in_name = inr target
unfinished_is bytes none (inl (more, h, reads)) few few_in_name = inl (longer more reads)
  where
    longer : (more : List ℕ) → ReadsRequest (bytes ++ more) h [] → IsProperPrefix bytes
    longer [] reads = absurd (none h [] (subst (λ (t : List ℕ). ReadsRequest t h []) (append-nil bytes) reads))
    longer (next ∷ more) reads =
        prefix bytes next more h reads.0 few few_in_name
        (meets bytes (next ∷ more) (start_bytes h) _
        (reads.1 ∙ print_head h [] ∙ ap (λ (t : List ℕ). start_bytes h ++ t) (append-nil _)))
