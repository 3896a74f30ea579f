-- The words of a command line in which `@NAME` stands for the words of the file NAME, as the
-- manuals of the GNU programs have it. Those of a file may name files again.
use Rattle.std.specs.Prelude.{◌≡◌, ℕ, ◌+◌, ◌<◌, ◌≤◌, Bool, true, false, ◌==◌, List, [], ◌∷◌, ◌++◌}
use Rattle.std.specs.Prelude.{◌^◌, Option, Some, None, IfSome, Result, Ok, Err, map, length}
use Rattle.std.specs.Prelude.{if◌then◌else◌, IsUtf8, string_bytes, String, Vec}
use Rattle.std.specs.declared.alloc.Global.{Global}
use Rattle.std.specs.Str.{bytes_eq}
use Rattle.std.specs.List.{list_any}
use Rattle.thorin_words.specs.Words.{words_of}
use Rattle.thorin_words.specs.declared.responses.ResponseError.{ResponseError}
use Rattle.thorin_words.specs.declared.responses.ResponseError.TheVariants as errors
use Rattle.thorin_words.specs.declared.responses.Allowance.{Allowance}

-- why words are refused: a file of that name is inside itself, or inside as many others as may be
pub data Refusal : Type 0 where
  inside_itself : (name : List ℕ) → Refusal
  too_deep : (name : List ℕ) → Refusal

-- how many files may be inside one another
abbrev pub most_deep : ℕ
most_deep = 64

-- the words, or why they are refused
abbrev pub Outcome : Type 0
Outcome = Result (List (List ℕ)) Refusal

-- an outcome with these words in front
abbrev pub after : List (List ℕ) → Outcome → Outcome
after words (Ok more) = Ok (words ++ more)
after words (Err refusal) = Err refusal

-- whether a file of that name is among those that were begun and not ended
abbrev pub is_among : List (List ℕ) → List ℕ → Bool
is_among names name = list_any (λ outer. bytes_eq outer name) names

-- the name that a word `@NAME` has
abbrev pub name_in : List ℕ → Option (List ℕ)
name_in [] = None
name_in (byte ∷ name) = if byte == 64 then Some name else None

-- a word that stands for itself: it names no file, or there is none of that name
abbrev pub IsPlain : (List ℕ → Option (List ℕ) → Type 0) → List ℕ → Type 0
IsPlain offer word = IfSome (name_in word) (λ name. offer name None)

-- what words stand for, each of them inside the files of these names, where `offer` says what a
-- read of the file of a name may have given: its text, or that there is no such file
pub data Stands (offer : List ℕ → Option (List ℕ)
    → Type 0) : List (List ℕ) → List (List ℕ) → Outcome → Type 0 where
  End : (names : List (List ℕ)) → Stands offer names [] (Ok [])
  Plain : (names rest : List (List ℕ)) (word : List ℕ) (out : Outcome) → IsPlain offer word
      → Stands offer names rest out → Stands offer names (word ∷ rest) (after (word ∷ []) out)
  File : (names rest : List (List ℕ)) (name text : List ℕ) (own : List (List ℕ)) (out : Outcome)
      → is_among names name ≡ false → offer name (Some text) → length names < most_deep
      → Stands offer (names ++ name ∷ []) (words_of text) (Ok own) → Stands offer names rest out
      → Stands offer names ((64 ∷ name) ∷ rest) (after own out)
  Inner : (names rest : List (List ℕ)) (name text : List ℕ) (refusal : Refusal)
      → is_among names name ≡ false → offer name (Some text) → length names < most_deep
      → Stands offer (names ++ name ∷ []) (words_of text) (Err refusal)
      → Stands offer names ((64 ∷ name) ∷ rest) (Err refusal)
  Itself : (names rest : List (List ℕ)) (name : List ℕ) → is_among names name ≡ true
      → Stands offer names ((64 ∷ name) ∷ rest) (Err (inside_itself name))
  Deep : (names rest : List (List ℕ)) (name text : List ℕ) → is_among names name ≡ false
      → offer name (Some text) → most_deep ≤ length names
      → Stands offer names ((64 ∷ name) ∷ rest) (Err (too_deep name))

-- ---- why words can't be told

-- some word that may be read has that: one of these, or one of the files that they name, which may
-- name files again
pub data Meets (offer : List ℕ → Option (List ℕ) → Type 0)
    (P : List ℕ → Type 0) : List (List ℕ) → Type 0 where
  Here : (word : List ℕ) (rest : List (List ℕ)) → P word → Meets offer P (word ∷ rest)
  Later : (word : List ℕ) (rest : List (List ℕ)) → Meets offer P rest
      → Meets offer P (word ∷ rest)
  Within : (name text : List ℕ) (rest : List (List ℕ)) → offer name (Some text)
      → Meets offer P (words_of text) → Meets offer P ((64 ∷ name) ∷ rest)

-- what a word that stands for itself costs
abbrev pub bytes_of_a_word : ℕ
bytes_of_a_word = 32

-- some of the words name so many files, and have so many bytes: those of each file as often as it
-- is named, and 32 for each word that stands for itself
pub data Costs (offer : List ℕ → Option (List ℕ)
    → Type 0) : List (List ℕ) → (files bytes : ℕ) → Type 0 where
  Nothing : (words : List (List ℕ)) → Costs offer words 0 0
  Word : (word : List ℕ) (rest : List (List ℕ)) (files bytes : ℕ) → IsPlain offer word
      → Costs offer rest files bytes → Costs offer (word ∷ rest) files (bytes_of_a_word + bytes)
  Named : (name text : List ℕ) (rest : List (List ℕ)) (files bytes others more : ℕ)
      → offer name (Some text) → Costs offer (words_of text) files bytes
      → Costs offer rest others more
      → Costs offer ((64 ∷ name) ∷ rest) (1 + (files + others)) (length text + (bytes + more))

-- a word of a file that isn't UTF-8; or one whose file can't be read, where `fails` says by which
-- error the read of the file of a name may fail
abbrev pub Spoils : (List ℕ → ResponseError → Type 0) → ResponseError → List ℕ → Type 0
Spoils fails errors.NotUtf8 word = ¬ (IsUtf8 word)
Spoils fails e word = (name : List ℕ) × (word ≡ 64 ∷ name) × fails name e

-- the errors of a read: there was one, the file is too long, or memory ran out
abbrev pub IsOfReading : ResponseError → Type 0
IsOfReading errors.Unreadable = Unit {0}
IsOfReading errors.TooLong = Unit {0}
IsOfReading errors.Memory = Unit {0}
IsOfReading _ = ⊥

-- why words inside the files of these names can't be told, where they may name so many files and
-- have so many bytes: each error has its cause, but want of memory
abbrev pub Refuses : (List ℕ → Option (List ℕ) → Type 0) → (List ℕ → ResponseError → Type 0)
    → (names : List (List ℕ)) (files bytes : ℕ) (words : List (List ℕ)) → ResponseError → Type 0
Refuses offer fails names files bytes words (errors.Inside name) =
    Stands offer names words (Err (inside_itself (string_bytes name)))
Refuses offer fails names files bytes words (errors.TooDeep name) =
    Stands offer names words (Err (too_deep (string_bytes name)))
Refuses offer fails names files bytes words errors.Unreadable =
    Meets offer (Spoils fails errors.Unreadable) words
Refuses offer fails names files bytes words errors.TooMany =
    (count : ℕ) × (size : ℕ) × Costs offer words count size × (files < count)
Refuses offer fails names files bytes words errors.TooLong =
    (count : ℕ) × (size : ℕ) × Costs offer words count size × (bytes < size)
Refuses offer fails names files bytes words errors.NotUtf8 =
    Meets offer (Spoils fails errors.NotUtf8) words
Refuses offer fails names files bytes words errors.Memory = Unit {0}

-- how many files a line may name, and how many bytes it may have
abbrev pub most_files : ℕ
most_files = 2000

abbrev pub most_bytes : ℕ
most_bytes = 2 ^ 26

-- why the words of a line can't be told
abbrev pub CannotBeTold : (List ℕ → Option (List ℕ) → Type 0) → (List ℕ → ResponseError → Type 0)
    → (line : List (List ℕ)) → ResponseError → Type 0
CannotBeTold offer fails line e = Refuses offer fails [] most_files most_bytes line e

-- words that name no file
abbrev pub AreBare : List (List ℕ) → Type 0
AreBare [] = Unit {0}
AreBare (word ∷ words) = IsUtf8 word × (name_in word ≡ None) × AreBare words

abbrev pub words_in : Vec (String Global) Global → List (List ℕ)
words_in words = map string_bytes words.items

-- what comes of a line: the program's name and what the other words stand for, or why they can't be
-- told
abbrev pub Answers : (List ℕ → Option (List ℕ) → Type 0) → (List ℕ → ResponseError → Type 0)
    → (program : List ℕ) (line : List (List ℕ))
    → Result (Vec (String Global) Global) ResponseError → Type 0
Answers offer fails program line (Ok words) =
    (own : List (List ℕ)) × (words_in words ≡ program ∷ own) × Stands offer [] line (Ok own)
Answers offer fails program line (Err e) = CannotBeTold offer fails line e

-- ---- what is known while the words are read

-- of words inside the files of these names the last are left: what the others stand for was added,
-- and what they cost taken from what was left
pub record Leaves (offer : List ℕ → Option (List ℕ) → Type 0)
    (fails : List ℕ → ResponseError → Type 0) (names words last old new : List (List ℕ))
    (before now : Allowance) : Type 0 where
  pub own : List (List ℕ)
  pub files : ℕ
  pub bytes : ℕ
  pub added : new ≡ old ++ own
  pub fewer : files + now.files ≡ before.files
  pub less : bytes + now.bytes ≡ before.bytes
  pub stands : (out : Outcome) → Stands offer names last out
      → Stands offer names words (after own out)
  pub meets : (e : ResponseError) → Meets offer (Spoils fails e) last
      → Meets offer (Spoils fails e) words
  pub costs : (count size : ℕ) → Costs offer last count size
      → Costs offer words (files + count) (bytes + size)

-- words were read up to the last of them, or can't be told
abbrev pub AreRead : (List ℕ → Option (List ℕ) → Type 0) → (List ℕ → ResponseError → Type 0)
    → (names words last old new : List (List ℕ)) → (before : Allowance)
    → Result Allowance ResponseError → Type 0
AreRead offer fails names words last old new before (Ok now) =
    Leaves offer fails names words last old new before now
AreRead offer fails names words last old new before (Err e) =
    Refuses offer fails names before.files before.bytes words e

-- a word was, whatever stands behind it
abbrev pub IsRead : (List ℕ → Option (List ℕ) → Type 0) → (List ℕ → ResponseError → Type 0)
    → (names : List (List ℕ)) (word : List ℕ) (old new : List (List ℕ)) → (before : Allowance)
    → Result Allowance ResponseError → Type 0
IsRead offer fails names word old new before result = (rest : List (List ℕ))
    → AreRead offer fails names (word ∷ rest) rest old new before result

-- a word that can't be told by itself, inside the files of these names
abbrev pub Stops : (List ℕ → Option (List ℕ) → Type 0) → (List ℕ → ResponseError → Type 0)
    → (names : List (List ℕ)) (word : List ℕ) → Allowance → ResponseError → Type 0
Stops offer fails names word left errors.NotUtf8 = ⊥
Stops offer fails names word left errors.Memory = Unit {0}
Stops offer fails names word left (errors.Inside name) =
    (word ≡ 64 ∷ string_bytes name) × (is_among names (string_bytes name) ≡ true)
Stops offer fails names word left (errors.TooDeep name) =
    (word ≡ 64 ∷ string_bytes name) × (is_among names (string_bytes name) ≡ false)
    × (most_deep ≤ length names) × ((text : List ℕ) × offer (string_bytes name) (Some text))
Stops offer fails names word left errors.TooMany = (left.files ≡ 0)
    × ((name : List ℕ) × (word ≡ 64 ∷ name) × ((text : List ℕ) × offer name (Some text)))
Stops offer fails names word left errors.TooLong = (name : List ℕ) × (word ≡ 64 ∷ name)
    × ((text : List ℕ) × offer name (Some text) × (left.bytes < length text))
Stops offer fails names word left errors.Unreadable = Spoils fails errors.Unreadable word

-- what a word was found to name inside the files of these names
abbrev pub Opens : (List ℕ → Option (List ℕ) → Type 0) → (List ℕ → ResponseError → Type 0)
    → (names : List (List ℕ)) (word : List ℕ) → Allowance
    → Result (Option (String Global × Vec ℕ Global × Allowance)) ResponseError → Type 0
Opens offer fails names word left (Ok None) = IsPlain offer word
Opens offer fails names word left (Ok (Some (name, text, now))) =
    (word ≡ 64 ∷ string_bytes name) × (is_among names (string_bytes name) ≡ false)
    × offer (string_bytes name) (Some text.items) × (now.files + 1 ≡ left.files)
    × (now.bytes + length text.items ≡ left.bytes) × (length names < most_deep)
Opens offer fails names word left (Err e) = Stops offer fails names word left e
