-- Reading a response piece by piece.
use Rattle.std.proofs.Common.{◌≡◌, ℕ, ◌+◌, ◌-◌, ◌≤◌, List, [], ◌++◌, length, take, drop, Option, Some, None, Result, Ok, Err, IfSome, option_map, refl, sym, ap, ap₂, ◌∙◌, subst, inr, arith, length-append, length-drop}
use Rattle.std.proofs.Math.Seq.{take-add}
use Rattle.std.proofs.lemmas.List.{drop-drop, drop_all, length-take, length-take-le, take-append-le, take_all}
use Rattle.spm_outside.specs.Book.{Pages, response_of}
use Rattle.spm_outside.specs.Exchange.{RestAfterExchange, RestAfterReads, TakenAfterExchange, TakesUpTo}
use Rattle.spm_outside.specs.Link.{HandsOver, RestAfterRead}
use Rattle.spm_outside.specs.declared.book.Authority.{Authority}
use Rattle.spm_outside.specs.declared.fault.CallFault.{CallFault}
use Rattle.spm_outside.specs.declared.fault.CallFault.TheVariants.{Failed, Memory}

-- the bytes are those at the front of the first rest, and what is left is what stands behind them
pub record IsReadSoFar (bytes : List ℕ) (first left : Option (List ℕ)) : Type 0 where
  pub left_is : left ≡ option_map (λ rest. drop (length bytes) rest) first
  pub front : IfSome first (λ rest. (length bytes ≤ length rest) × (bytes ≡ take (length bytes) rest))

-- the length with so many bytes more
pub length_more : (bytes piece : List ℕ) (count : ℕ) → count ≤ length piece → length (bytes ++ take count piece) ≡ length bytes + count
length_more bytes piece count within = length-append bytes (take count piece) ∙ ap (λ (n : ℕ). length bytes + n) (length-take-le count piece within)

-- before the first piece nothing was read
pub read_nothing : (first : Option (List ℕ)) → IsReadSoFar [] first first
read_nothing None = record { left_is = refl; front = tt }
read_nothing (Some rest) = record { left_is = refl; front = (omega arith, refl) }

-- a piece more was read
pub read_more : (bytes piece : List ℕ) (count : ℕ) (first left new : Option (List ℕ)) → IsReadSoFar bytes first left → RestAfterRead (Ok count) piece left new
    → IsReadSoFar (bytes ++ take count piece) first new
read_more bytes piece count None left new so_far read = record {
  left_is = read.0 ∙ ap (option_map (λ rest. drop count rest)) so_far.left_is;
  front = tt;
}
read_more bytes piece count (Some rest) left new so_far read =
    let n = length bytes in
    let hands : HandsOver (drop n rest) piece count = subst (λ l. IfSome l (λ r. HandsOver r piece count)) so_far.left_is read.2 in
    let longer = length_more bytes piece count read.1 in
    record {
      left_is =
          read.0 ∙ ap (option_map (λ r. drop count r)) so_far.left_is
          ∙ ap Some (drop-drop count n rest ∙ ap (λ (k : ℕ). drop k rest) (sym longer));
      front = (
        (let within = hands.within in omega (arith, longer, within, length-drop n rest, so_far.front.0)),
        (ap₂ ◌++◌ so_far.front.1 hands.bytes ∙ sym (take-add n count rest) ∙ ap (λ (k : ℕ). take k rest) (sym longer)),
      );
    }

-- at the limit what was read is the first bytes up to it
pub read_to_limit : (bytes : List ℕ) (limit : ℕ) (first left : Option (List ℕ)) → IsReadSoFar bytes first left → length bytes ≤ limit → limit ≤ length bytes
    → IfSome first (λ rest. bytes ≡ take limit rest)
read_to_limit bytes limit None left so_far within reached = tt
read_to_limit bytes limit (Some rest) left so_far within reached = so_far.front.1 ∙ ap (λ (k : ℕ). take k rest) (omega (arith, within, reached))

-- nothing is left behind the last byte
no_more : (n : ℕ) (rest : List ℕ) → n ≤ length rest → drop n rest ≡ [] → length rest ≡ n
no_more n rest within none = omega (arith, within, length-drop n rest, ap length none)

-- at the end all was read
pub read_to_end : (bytes piece : List ℕ) (limit : ℕ) (first left new : Option (List ℕ)) → IsReadSoFar bytes first left → length bytes ≤ limit
    → RestAfterRead (Ok 0) piece left new → IfSome first (λ rest. bytes ≡ take limit rest)
read_to_end bytes piece limit None left new so_far within read = tt
read_to_end bytes piece limit (Some rest) left new so_far within read =
    let n = length bytes in
    let hands : HandsOver (drop n rest) piece 0 = subst (λ l. IfSome l (λ r. HandsOver r piece 0)) so_far.left_is read.2 in
    let whole = no_more n rest so_far.front.0 (hands.end refl) in
    so_far.front.1 ∙ take_all n rest (omega (arith, whole)) ∙ sym (take_all limit rest (omega (arith, whole, within)))

-- where nothing more comes, nothing is left, behind the limit either
pub left_at_end : (bytes piece : List ℕ) (limit : ℕ) (first left new : Option (List ℕ)) → IsReadSoFar bytes first left → length bytes ≤ limit
    → RestAfterRead (Ok 0) piece left new → new ≡ option_map (λ rest. drop limit rest) first
left_at_end bytes piece limit None left new so_far within read = read.0 ∙ ap (option_map (λ rest. drop 0 rest)) so_far.left_is
left_at_end bytes piece limit (Some rest) left new so_far within read =
    let n = length bytes in
    let hands : HandsOver (drop n rest) piece 0 = subst (λ l. IfSome l (λ r. HandsOver r piece 0)) so_far.left_is read.2 in
    let whole = no_more n rest so_far.front.0 (hands.end refl) in
    read.0
    ∙ ap (option_map (λ r. drop 0 r)) so_far.left_is
    ∙ ap Some (hands.end refl ∙ sym (drop_all limit rest (omega (arith, whole, within))))

-- an open that was answered, and then the reads
pub rest_after_exchange : {T : Type 0} (result : Result T CallFault) (book : Option Pages) (to : Authority) (request : List ℕ) (limit : ℕ) (old middle new : Option (List ℕ))
    → IfSome book (λ pages. IfSome middle (λ rest. rest ≡ response_of pages to request)) → RestAfterReads result limit middle new
    → RestAfterExchange result book to request limit old new
rest_after_exchange (Ok answer) None to request limit old middle new opened reads = tt
rest_after_exchange (Ok answer) (Some pages) to request limit old None new opened reads = rw reads tt
rest_after_exchange (Ok answer) (Some pages) to request limit old (Some rest) new opened reads = rw reads (ap (λ r. drop limit r) opened)
rest_after_exchange (Err Failed) None to request limit old middle new opened reads = tt
rest_after_exchange (Err Failed) (Some pages) to request limit old None new opened reads = rw reads.2 tt
rest_after_exchange (Err Failed) (Some pages) to request limit old (Some rest) new opened reads =
    rw reads.2 (inr (reads.0, reads.1, ap (λ r. drop reads.0 r) opened))
rest_after_exchange (Err Memory) None to request limit old middle new opened reads = inr tt
rest_after_exchange (Err Memory) (Some pages) to request limit old None new opened reads = inr (rw reads.2 tt)
rest_after_exchange (Err Memory) (Some pages) to request limit old (Some rest) new opened reads =
    inr (rw reads.2 (reads.0, reads.1, ap (λ r. drop reads.0 r) opened))

-- two numbers of bytes read, one behind the other
pub sums_add : (first middle new : Option ℕ) (n count m : ℕ) → middle ≡ option_map (λ sum. sum + n) first → new ≡ option_map (λ sum. sum + count) middle
    → m ≡ n + count → new ≡ option_map (λ sum. sum + m) first
sums_add None middle new n count m before more both = more ∙ ap (option_map (λ sum. sum + count)) before
sums_add (Some old) middle new n count m before more both =
    more ∙ ap (option_map (λ sum. sum + count)) before ∙ ap Some (let e : (old + n) + count ≡ old + m = omega (arith, both) in e)

-- what the reads took is within the limit, behind an open that was answered
pub taken_after_exchange : {T : Type 0} (result : Result T CallFault) (limit : ℕ) (old middle new : Option ℕ)
    → middle ≡ option_map (λ _. 0) old → TakesUpTo limit middle new → TakenAfterExchange result limit old new
taken_after_exchange (Ok answer) limit None middle new opened reads = rw (reads.2, opened) tt
taken_after_exchange (Ok answer) limit (Some sum) middle new opened reads = rw (reads.2, opened) (omega (arith, reads.1))
taken_after_exchange (Err Failed) limit None middle new opened reads = rw (reads.2, opened) tt
taken_after_exchange (Err Failed) limit (Some sum) middle new opened reads = rw (reads.2, opened) (omega (arith, reads.1))
taken_after_exchange (Err Memory) limit None middle new opened reads = inr (rw (reads.2, opened) tt)
taken_after_exchange (Err Memory) limit (Some sum) middle new opened reads = inr (rw (reads.2, opened) (omega (arith, reads.1)))

-- the front of a text with more behind it
pub front_of : (count : ℕ) (piece behind : List ℕ) → count ≤ length piece → take count (piece ++ behind) ≡ take count piece
front_of count piece behind within = take-append-le count piece behind within

-- a piece as long as what is still allowed stays within the limit
pub within_limit : (bytes piece old : List ℕ) (count wanted limit : ℕ) → count ≤ length piece → length piece ≡ length (take wanted old) → wanted ≤ limit - length bytes
    → length bytes ≤ limit → length (bytes ++ take count piece) ≤ limit
within_limit bytes piece old count wanted limit counted same small within =
    let taken = length-take wanted old in
    omega (arith, length_more bytes piece count counted, counted, same, small, within, taken)

-- what was read into a piece and what it had behind are as long as before
pub whole_again : (piece old : List ℕ) (wanted : ℕ) → length piece ≡ length (take wanted old) → length (piece ++ drop wanted old) ≡ length old
whole_again piece old wanted same = omega (arith, length-append piece (drop wanted old), same, length-take wanted old, length-drop wanted old)
