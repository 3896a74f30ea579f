-- What is said of a file by its headers, and what once its streams are read: sections that are
-- compared, sizes that are added up, and the limit of what headers tell.
use Rattle.dwp_base.specs.declared.{class.Class.Class, endian.Endianness.Endianness}
use Rattle.dwp_base.{proofs.Bools.by-bool, proofs.Bools.neither, specs.Reading.◌>>=◌}
use Rattle.dwp_decompress.specs.Compressed.{has_compressed, is_compressed, is_older}
use Rattle.dwp_decompress.specs.Headers.{content_of, told_size, told_sizes}
use Rattle.dwp_decompress.specs.Names.{added_name, added_name_of, added_names, plain_name}
use Rattle.dwp_decompress.specs.Result.{contents_of, plain_length_of, result_sections}
use Rattle.dwp_decompress.specs.Result.{decompressed_of, plain_contents, plain_file, result_section}
use Rattle.dwp_decompress.specs.Sizes.{compressed_size, length_of, sum_tells_more, tells_more}
use Rattle.dwp_decompress.specs.declared.error.DecompressError.TheVariants.{Unrepresentable}
use Rattle.dwp_decompress.specs.declared.{asked.Asked.Asked, error.DecompressError.DecompressError}
use Rattle.dwp_decompress.specs.{Answers.reading, Sizes.size_in}
use Rattle.dwp_elf_read.specs.Elf.{Elf, elf_of, SectionMeaning}
use Rattle.std.proofs.Common.{ap, Ok, [], ℕ, ◌&&◌, ◌++◌, ◌-◌, ◌/◌, ◌<◌, ◌∙◌, ◌∷◌, ◌≡◌, ◌≤◌}
use Rattle.std.proofs.Common.{append-nil, length-drop, length-take, ltb-false, ltb-true, option_map}
use Rattle.std.proofs.Common.{append_assoc, if◌then◌else◌, IsTrue, length-append, Option, slice_get}
use Rattle.std.proofs.Common.{arith, Bool, codes, false, get_or, le-ltb, length, List, None, Result}
use Rattle.std.proofs.Common.{drop, Err, lt-ltb, nat_lt, not, refl, Some, sym, take, true, ◌*◌, ◌+◌}
use Rattle.std.proofs.lemmas.List.{drop_all, drop_more, map-append, Sums.sum_by-cons}
use Rattle.std.proofs.lemmas.Option.{get_or_from_slice_get, slice_get_read, slice_get_within}
use Rattle.std.proofs.lemmas.{Option.slice_get-map, Slice.Eq.bytes_eq-Decides}
use Rattle.std.specs.{Global.Vec, List.list_any}

-- the same error of another step
same_error : {A B : Type 0} (d e : DecompressError)
    → ◌≡◌ {A = Result A DecompressError} (Err d) (Err e)
    → ◌≡◌ {A = Result B DecompressError} (Err d) (Err e)
same_error d e h = let same : d ≡ e = cc in ap Err same

fails : (asked : Asked) (bytes : List ℕ) (file : Elf) (some : Bool)
    (length : Result ℕ DecompressError) (e : DecompressError) → length_of asked bytes file ≡ length
    → (if some then (length >>= λ n. Ok (Some n)) else Ok None) ≡ Err e
    → (if some then (plain_file asked bytes file >>= λ plain. Ok (Some plain)) else Ok None) ≡ Err e
unfolding plain_file
fails asked bytes file true (Ok n) e is h = absurd cc
fails asked bytes file true (Err d) e is h = rw is (same_error d e h)
fails asked bytes file false length e is h = absurd cc

read_fails : (asked : Asked) (bytes : List ℕ) (file : Result Elf DecompressError)
    (e : DecompressError) → reading (elf_of bytes) ≡ file → plain_length_of asked bytes ≡ Err e
    → decompressed_of asked bytes ≡ Err e
unfolding plain_length_of decompressed_of
read_fails asked bytes (Ok file) e is h = rw is (fails asked bytes file
    (has_compressed asked file.sections) (length_of asked bytes file) e refl (rw is at h))
read_fails asked bytes (Err d) e is h = rw is (same_error d e (rw is at h))

-- an error of the headers is that of the file
pub length_fails : (asked : Asked) (bytes : List ℕ) (e : DecompressError)
    → plain_length_of asked bytes ≡ Err e → decompressed_of asked bytes ≡ Err e
length_fails asked bytes e = read_fails asked bytes (reading (elf_of bytes)) e refl

-- ---- sections taken one after the other
pub drop_step : {X : Type 0} (xs : List X) (i : ℕ) (x : X) → slice_get xs i ≡ Some x
    → drop i xs ≡ x ∷ drop (i + 1) xs
drop_step xs i x e = drop_more xs i x (slice_get_within xs i x e)
    ∙ ap (λ y. y ∷ drop (i + 1) xs) (get_or_from_slice_get xs i x x e)

-- one of them passes; another doesn't
pub any_hit : {X : Type 0} (p : X → Bool) (xs : List X) (i : ℕ) (x : X) → slice_get xs i ≡ Some x
    → p x ≡ true → list_any p (drop i xs) ≡ true
any_hit p xs i x at passes = rw (drop_step xs i x at, passes) refl

pub any_miss : {X : Type 0} (p : X → Bool) (xs : List X) (i : ℕ) (x : X) → slice_get xs i ≡ Some x
    → p x ≡ false → list_any p (drop i xs) ≡ list_any p (drop (i + 1) xs)
any_miss p xs i x at fails = rw (drop_step xs i x at, fails) refl

abbrev pub Contents : Type 0
Contents = List (Option (List ℕ))

-- contents behind others
abbrev pub behind : Contents → Result Contents DecompressError → Result Contents DecompressError
behind front rest = rest >>= λ contents. Ok (front ++ contents)

pub behind_none : (rest : Result Contents DecompressError) → behind [] rest ≡ rest
behind_none (Ok contents) = refl
behind_none (Err e) = refl

pub one_more : (front : Contents) (content : Option (List ℕ)) (rest : Result Contents
    DecompressError)
    → behind front (rest >>= λ contents. Ok (content ∷ contents)) ≡ behind
    (front ++ content ∷ []) rest
one_more front content (Ok contents) = rw append_assoc refl
one_more front content (Err e) = refl

-- names that are added
pub names_step : (asked : Asked) (sections : List SectionMeaning) (i : ℕ) (front more : List ℕ)
    (section : SectionMeaning) → slice_get sections i ≡ Some section
    → more ≡ front ++ added_name_of asked section
    → more ++ added_names asked (drop (i + 1) sections)
    ≡ front ++ added_names asked (drop i sections)
unfolding added_names
names_step asked sections i front more section at is = rw (drop_step sections i section at, is)
    (append_assoc front (added_name_of asked section) (added_names asked (drop (i + 1) sections)))

pub names_end : (asked : Asked) (sections : List SectionMeaning) (i : ℕ) (front : List ℕ)
    → length sections ≤ i → front ++ added_names asked (drop i sections) ≡ front
unfolding added_names
names_end asked sections i front h = rw (drop_all i sections h, append-nil front) refl

-- one content more
pub plain_more : (contents old : List (Option (Vec ℕ))) (content : Option (Vec ℕ))
    → contents ≡ old ++ content ∷ [] → plain_contents contents
    ≡ plain_contents old ++ option_map (λ (plain : Vec ℕ). plain.items) content ∷ []
plain_more contents old content e =
    rw e (map-append (option_map (λ (plain : Vec ℕ). plain.items)) old (content ∷ []))

-- an item of plain contents
pub get_content : (contents : List (Option (Vec ℕ))) (i : ℕ) (x : Option (Vec ℕ))
    → i < length contents → x ≡ get_or contents i x
    → slice_get (plain_contents contents) i ≡ Some (option_map (λ (plain : Vec ℕ). plain.items) x)
get_content contents i x h e = rw (
  slice_get-map (option_map (λ (plain : Vec ℕ). plain.items)) contents i,
  slice_get_read contents (length contents) i x refl h e,
) refl

-- a number and what others have together
abbrev pub plus : ℕ → Result ℕ DecompressError → Result ℕ DecompressError
plus n rest = rest >>= λ m. Ok (n + m)

pub plus_more : (n m : ℕ) (rest : Result ℕ DecompressError) → plus n (rest >>= λ k. Ok (m + k))
    ≡ plus (n + m) rest
plus_more n m (Ok k) = ap Ok (omega arith)
plus_more n m (Err e) = refl

pub none_plus : (rest : Result ℕ DecompressError) → plus 0 rest ≡ rest
none_plus (Ok k) = ap Ok (omega arith)
none_plus (Err e) = refl

module _ (asked : Asked) (sections : List SectionMeaning) (i : ℕ) where
  pub size_step : (left here less : ℕ) (section : SectionMeaning)
      → slice_get sections i ≡ Some section → here ≡ size_in asked section → here ≤ left
      → less ≡ left - here → nat_lt less (compressed_size asked (drop (i + 1) sections))
      ≡ nat_lt left (compressed_size asked (drop i sections))
  unfolding compressed_size
  size_step left here less section at is h m =
      let rest = compressed_size asked (drop (i + 1) sections) in
      let all = ap (compressed_size asked) (drop_step sections i section at)
      ∙ sum_by-cons (size_in asked) section (drop (i + 1) sections) in
      by-bool _ (nat_lt less rest)
      (λ yes. rw yes (sym (lt-ltb left _ (omega (arith, all, is, h, m, ltb-true _ _ yes)))))
      (λ no. rw no (sym (le-ltb left _ (omega (arith, all, is, h, m, ltb-false _ _ no)))))

  pub size_past : (left : ℕ) (section : SectionMeaning) → slice_get sections i ≡ Some section
      → left < size_in asked section → nat_lt left (compressed_size asked (drop i sections)) ≡ true
  unfolding compressed_size
  size_past left section at h =
      let all = ap (compressed_size asked) (drop_step sections i section at)
      ∙ sum_by-cons (size_in asked) section (drop (i + 1) sections) in
      lt-ltb left _ (omega (arith, all, h))

  pub size_end : (left : ℕ) → length sections ≤ i
      → nat_lt left (compressed_size asked (drop i sections)) ≡ false
  unfolding compressed_size
  size_end left h = rw (drop_all i sections h) (le-ltb left 0 (omega arith))

  pub added_step : (section : SectionMeaning) → slice_get sections i ≡ Some section
      → length (added_names asked (drop i sections)) ≡ length (added_name_of asked section)
      + length (added_names asked (drop (i + 1) sections))
  unfolding added_names
  added_step section at = rw (drop_step sections i section at)
      (length-append (added_name_of asked section) (added_names asked (drop (i + 1) sections)))

  pub added_end : length sections ≤ i → length (added_names asked (drop i sections)) ≡ 0
  unfolding added_names
  added_end h = rw (drop_all i sections h) refl

-- an older name has at least as many bytes as it begins with
pub older_long : (name : List ℕ) → is_older name ≡ true → 8 ≤ length name
unfolding is_older
older_long name h =
    let begins = (bytes_eq-Decides (codes ".zdebug_") (take 8 name)).0 h in
    let eight : 8 ≡ length (take 8 name) = ap length begins in
    omega (arith, eight, length-take 8 name)

-- a plain name and its end are as long as the older name
pub older_adds : (name : List ℕ) → is_older name ≡ true
    → length name ≡ length (added_name (Some name))
unfolding plain_name
older_adds name h =
    let long = older_long name h in
    let behind = length-drop 8 name in
    let all = length-append (codes ".debug_" ++ drop 8 name) (0 ∷ []) in
    rw h (omega (arith, all, behind, long))

-- more is told than so many times the file's bytes: then what it is of the sections' decides
pub more_told : (file sections told : ℕ) → 1032 * file < told
    → not (nat_lt ((told - 1) / 1032) sections)
    ≡ (nat_lt (1032 * file) told && nat_lt (1032 * sections) told)
more_told file sections told h = rw (lt-ltb (1032 * file) told h) (by-bool _
    (nat_lt ((told - 1) / 1032) sections) (λ yes. rw yes (sym (le-ltb (1032 * sections) told
    (omega (arith, h, ltb-true _ _ yes)))))
    (λ no. rw no (sym (lt-ltb (1032 * sections) told (omega (arith, h, ltb-false _ _ no))))))

pub few_told : (file told : ℕ) (rest : Bool) → told ≤ 1032 * file
    → false ≡ (nat_lt (1032 * file) told && rest)
few_told file told rest h = rw (le-ltb (1032 * file) told h) refl

-- nothing is told where nothing is compressed
pub none_told : (asked : Asked) (class : Class) (order : Endianness)
    (sections : List SectionMeaning) → has_compressed asked sections ≡ false
    → told_sizes asked class order sections ≡ Ok 0
unfolding told_sizes told_size
none_told asked class order [] h = refl
none_told asked class order (section ∷ sections) h =
    let each = neither (is_compressed asked section) _ h in
    rw (each.0, none_told asked class order sections each.1) refl

-- an error that only comes where the sum is known is this one, past the limit
pub limit_error : (asked : Asked) (bytes : List ℕ) (file : Elf) (sum : Result ℕ DecompressError)
    (e : DecompressError) → ((n : ℕ) → sum ≡ Ok n → e ≡ Unrepresentable)
    → IsTrue (sum_tells_more asked bytes file sum) → e ≡ Unrepresentable
limit_error asked bytes file (Ok n) e h more = h n refl
limit_error asked bytes file (Err d) e h more = absurd cc

-- where nothing is compressed, nothing is past it
pub nothing_more : (asked : Asked) (bytes : List ℕ) (file : Elf)
    → has_compressed asked file.sections ≡ false
    → sum_tells_more asked bytes file (told_sizes asked file.class file.order file.sections) ≡ false
unfolding tells_more
nothing_more asked bytes file h = rw (
  none_told asked file.class file.order file.sections h,
  le-ltb (1032 * length bytes) 0 (omega arith),
) refl
