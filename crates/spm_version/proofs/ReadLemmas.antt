-- Reading a version gives no want of memory: that error comes from an allocation alone. So an error of
-- `Version::parse` is either that, or says that the text is no version.
use Rattle.std.proofs.Common.{◌≡◌, ◌==◌, ◌⊎◌, ℕ, ◌+◌, ◌-◌, ◌*◌, ◌^◌, List, [], ◌∷◌, length, take, drop, None, Result, Ok, Err, Bool, true, false, nat_lt, nat_le, inl, inr, refl, ap, ◌∙◌}
use Rattle.std.specs.Prelude.{◌↔◌, IfErr, IsErrOf, if◌then◌else◌}
use Rattle.std.specs.Char.{is_ascii_digit}
use Rattle.std.specs.Result.{result_ok}
use Rattle.semver.specs.Parse.{◌>>=◌, IsRefused, Parts, digits_end, digits_from, dot_of, end_error, fail, identifier_len, identifier_of, is_bad_zero, is_leading_zero, is_letter, is_memory, memory_error, numeric, part_end, scan, starts_zero, tail_build, tail_end, tail_pre, version_parts}
use Rattle.semver.specs.declared.Version.{Version}
use Rattle.semver.specs.declared.error.Error.{Error}
use Rattle.semver.specs.declared.error.ErrorKind.{ErrorKind}
use Rattle.semver.specs.declared.error.Position.{Position}
use Rattle.semver.specs.declared.error.Position.TheVariants as place
use Rattle.spm_version.specs.declared.release.VersionFault.{VersionFault}
use Rattle.spm_version.specs.declared.release.VersionFault.TheVariants.{BadVersion, Memory}

-- what was read, or an error other than the want of memory
pub record TakesNoMemory {A : Type 0} (found : Result A Error) : Type 0 where
  pub kinds : IfErr found (λ e. is_memory e.kind ≡ false)

-- what was read is no want of memory
read : {A : Type 0} (x : A) → TakesNoMemory {A = A} (Ok x)
read x = record { kinds = tt }

-- a fault of another kind is no want of memory
failed : {A : Type 0} (k : ErrorKind) → is_memory k ≡ false → TakesNoMemory {A = A} (fail k)
failed k h = record { kinds = h }

-- one reader behind another
chain : {A B : Type 0} (r : Result A Error) (f : A → Result B Error) → TakesNoMemory r → ((x : A) → TakesNoMemory (f x)) → TakesNoMemory (r >>= f)
chain (Ok x) f h k = k x
chain (Err e) f h k = record { kinds = h.kinds }

-- one of two readers
choice : {A : Type 0} (b : Bool) (r s : Result A Error) → TakesNoMemory r → TakesNoMemory s → TakesNoMemory (if b then r else s)
choice true r s h k = h
choice false r s h k = k

-- what an end that isn't one is told as takes no memory
end_error-no_memory : (pos : Position) (text : List ℕ) → TakesNoMemory (end_error pos text)
end_error-no_memory pos [] = failed _ refl
end_error-no_memory pos (b ∷ rest) = failed _ refl

-- neither does the end of a number's digits
digits_end-no_memory : (pos : Position) (value len : ℕ) (rest : List ℕ) → TakesNoMemory (digits_end pos value len rest)
digits_end-no_memory pos value len rest =
    choice (nat_lt 0 len) (Ok (value, rest)) (end_error pos rest) (read (value, rest)) (end_error-no_memory pos rest)

-- nor do the digits of a number
digits_from-no_memory : (pos : Position) (value len : ℕ) (text : List ℕ) → TakesNoMemory (digits_from pos value len text)
unfolding digits_from
digits_from-no_memory pos value len [] = digits_end-no_memory pos value len []
digits_from-no_memory pos value len (b ∷ rest) =
    choice (is_ascii_digit b) _ _
    (choice (is_leading_zero value len) _ _ (failed _ refl)
    (choice (nat_le (2 ^ 64) (value * 10 + (b - 48))) _ _ (failed _ refl)
    (digits_from-no_memory pos (value * 10 + (b - 48)) (len + 1) rest)))
    (digits_end-no_memory pos value len (b ∷ rest))

-- nor does a dot
dot_of-no_memory : (pos : Position) (text : List ℕ) → TakesNoMemory (dot_of pos text)
dot_of-no_memory pos [] = failed _ refl
dot_of-no_memory pos (b ∷ rest) = choice (b == 46) _ _ (read rest) (failed _ refl)

-- nor does the end of a part of an identifier
part_end-no_memory : (pos : Position) (acc seg : ℕ) (nondigit lead : Bool) → TakesNoMemory (part_end pos acc seg nondigit lead)
part_end-no_memory pos acc seg nondigit lead =
    choice (seg == 0) _ _ (choice (acc == 0) _ _ (read 0) (failed _ refl))
    (choice (is_bad_zero pos seg nondigit lead) _ _ (failed _ refl) (read (acc + seg)))

-- nor do the bytes of an identifier
scan-no_memory : (pos : Position) (acc seg : ℕ) (nondigit lead : Bool) (text : List ℕ) → TakesNoMemory (scan pos acc seg nondigit lead text)
unfolding scan
scan-no_memory pos acc seg nondigit lead [] = part_end-no_memory pos acc seg nondigit lead
scan-no_memory pos acc seg nondigit lead (b ∷ rest) =
    choice (is_letter b) _ _ (scan-no_memory pos acc (seg + 1) true lead rest)
    (choice (is_ascii_digit b) _ _ (scan-no_memory pos acc (seg + 1) nondigit (starts_zero lead seg b) rest)
    (choice (b == 46) _ _
    (choice (seg == 0) _ _ (failed _ refl)
    (choice (is_bad_zero pos seg nondigit lead) _ _ (failed _ refl)
    (scan-no_memory pos (acc + seg + 1) 0 false false rest)))
    (part_end-no_memory pos acc seg nondigit lead)))

-- nor does an identifier
identifier_of-no_memory : (pos : Position) (text : List ℕ) → TakesNoMemory (identifier_of pos text)
identifier_of-no_memory pos text =
    chain (identifier_len pos text) _ (scan-no_memory pos 0 0 false false text)
    (λ n. choice (n == 0) _ _ (failed _ refl) (read (take n text, drop n text)))

-- nor does the end of a version
tail_end-no_memory : (pos : Position) (major minor patch : ℕ) (pre build text : List ℕ) → TakesNoMemory (tail_end pos major minor patch pre build text)
tail_end-no_memory pos major minor patch pre build [] = read (major, minor, patch, pre, build)
tail_end-no_memory pos major minor patch pre build (b ∷ rest) = failed _ refl

-- nor does what stands from the build on
tail_build-no_memory : (pos : Position) (major minor patch : ℕ) (pre text : List ℕ) → TakesNoMemory (tail_build pos major minor patch pre text)
tail_build-no_memory pos major minor patch pre [] = tail_end-no_memory pos major minor patch pre [] []
tail_build-no_memory pos major minor patch pre (b ∷ rest) =
    choice (b == 43) _ _
    (chain (identifier_of place.Build rest) _ (identifier_of-no_memory place.Build rest)
    (λ x. tail_end-no_memory place.Build major minor patch pre x.0 x.1))
    (tail_end-no_memory pos major minor patch pre [] (b ∷ rest))

-- nor does what stands behind the three numbers
tail_pre-no_memory : (major minor patch : ℕ) (text : List ℕ) → TakesNoMemory (tail_pre major minor patch text)
tail_pre-no_memory major minor patch [] = tail_build-no_memory place.Patch major minor patch [] []
tail_pre-no_memory major minor patch (b ∷ rest) =
    choice (b == 45) _ _
    (chain (identifier_of place.Pre rest) _ (identifier_of-no_memory place.Pre rest)
    (λ x. tail_build-no_memory place.Pre major minor patch x.0 x.1))
    (tail_build-no_memory place.Patch major minor patch [] (b ∷ rest))

-- so no text is refused for want of memory
pub version_parts-no_memory : (text : List ℕ) → TakesNoMemory (version_parts text)
version_parts-no_memory text =
    choice (length text == 0) _ _ (failed _ refl)
    (chain (numeric place.Major text) _ (digits_from-no_memory place.Major 0 0 text) (λ x.
    chain (dot_of place.Major x.1) _ (dot_of-no_memory place.Major x.1) (λ t.
    chain (numeric place.Minor t) _ (digits_from-no_memory place.Minor 0 0 t) (λ y.
    chain (dot_of place.Minor y.1) _ (dot_of-no_memory place.Minor y.1) (λ u.
    chain (numeric place.Patch u) _ (digits_from-no_memory place.Patch 0 0 u) (λ z.
    tail_pre-no_memory x.0 y.0 z.0 z.1))))))

-- what an error says of the text, where reading gave `found`
pub bad_exactly : {T : Type 0} (found : Result Parts Error) (e : Error) (fault : VersionFault) → TakesNoMemory found
    → (e ≡ memory_error) ⊎ (found ≡ Err e) → IsRefused {T = Version} found (Err e)
    → fault ≡ (if is_memory e.kind then Memory else BadVersion)
    → IsErrOf {T = T} (Err fault) BadVersion ↔ (result_ok found ≡ None)
bad_exactly (Ok parts) e fault none_wanted (inl memory) refused says =
    let wants : fault ≡ Memory = says ∙ ap (λ (m : Error). if is_memory m.kind then Memory else BadVersion) memory in
    (λ bad. cc, λ none. cc)
bad_exactly (Ok parts) e fault none_wanted (inr same) refused says = cc
bad_exactly (Err k) e fault none_wanted why refused says =
    let same : e ≡ k = cc in
    let tells : is_memory e.kind ≡ false = ap (λ (m : Error). is_memory m.kind) same ∙ none_wanted.kinds in
    let bad : fault ≡ BadVersion = says ∙ ap (λ (b : Bool). if b then Memory else BadVersion) tells in
    (λ _. refl, λ _. ap (λ (f : VersionFault). Err f) bad)
