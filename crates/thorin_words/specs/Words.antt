-- The words of a text, as the manuals of the GNU programs have it for `@FILE`: whitespace
-- separates; a word, or a part of it, may stand between single or double quotation marks; a
-- backslash takes the byte behind it, whatever it is.
use Rattle.std.specs.Prelude.{ℕ, Bool, true, false, ◌==◌, ◌&&◌, ◌||◌, not, nat_le, List, [], ◌∷◌}
use Rattle.std.specs.Prelude.{◌≡◌, ◌<◌, ◌≤◌, ◌++◌, length, drop, Option, Some, None, if◌then◌else◌}
use Rattle.thorin_words.specs.declared.words.LexerState.{LexerState}
use Rattle.thorin_words.specs.declared.words.LexerState.TheVariants.{Between, Inside, Escaped}

abbrev pub backslash : ℕ
backslash = 92

-- a blank, or one from tabulator to carriage return
abbrev pub is_space : ℕ → Bool
is_space byte = (byte == 32) || (nat_le 9 byte && nat_le byte 13)

abbrev pub is_mark : ℕ → Bool
is_mark byte = (byte == 39) || (byte == 34)

abbrev pub is_between : LexerState → Bool
is_between Between = true
is_between _ = false

-- the state behind a byte that no backslash takes
abbrev pub behind_in : Option ℕ → ℕ → LexerState
behind_in (Some mark) byte =
    if byte == backslash then Escaped (Some mark)
    else (if byte == mark then Inside None else Inside (Some mark))
behind_in None byte =
    if byte == backslash then Escaped None
    else (if is_space byte then Between
    else (if is_mark byte then Inside (Some byte) else Inside None))

-- the state behind a byte
abbrev pub behind : LexerState → ℕ → LexerState
behind Between byte = behind_in None byte
behind (Inside quote) byte = behind_in quote byte
behind (Escaped quote) byte = Inside quote

-- whether the byte belongs to the word: one that a backslash takes does, and no other backslash, no
-- mark that opens or closes, no space outside of marks
abbrev pub keeps_in : Option ℕ → ℕ → Bool
keeps_in (Some mark) byte = not (byte == backslash) && not (byte == mark)
keeps_in None byte = (not (byte == backslash) && not (is_mark byte)) && not (is_space byte)

abbrev pub keeps : LexerState → ℕ → Bool
keeps Between byte = keeps_in None byte
keeps (Inside quote) byte = keeps_in quote byte
keeps (Escaped quote) byte = true

-- a byte in front of the first of these words
abbrev pub put : ℕ → List (List ℕ) → List (List ℕ)
put byte [] = []
put byte (word ∷ words) = (byte ∷ word) ∷ words

-- the words that a text still has; inside of a word the first is what is left of it
abbrev pub words_from : LexerState → List ℕ → List (List ℕ)
words_from state [] = if is_between state then [] else ([] ∷ [])
words_from state (byte ∷ rest) =
    if keeps state byte then put byte (words_from (behind state byte) rest)
    else (if is_between (behind state byte) && not (is_between state)
    then [] ∷ words_from (behind state byte) rest
    else words_from (behind state byte) rest)

-- the words of a text
unfoldable pub words_of : List ℕ → List (List ℕ)
words_of text = words_from Between text

-- what is read from a place of a text on: no word, and it has none; or a word, and the place behind
-- it, where the other words go on
abbrev pub IsNext : List ℕ → ℕ → List ℕ → Option ℕ → Type 0
IsNext text start word None = words_of (drop start text) ≡ []
IsNext text start word (Some end) = (start < end) × (end ≤ length text)
    × (words_of (drop start text) ≡ word ∷ words_of (drop end text))

-- a text of words: each between marks, with a backslash before each byte, and a blank behind it
abbrev pub escaped : List ℕ → List ℕ
escaped [] = []
escaped (byte ∷ rest) = backslash ∷ byte ∷ escaped rest

abbrev pub quoted : List (List ℕ) → List ℕ
quoted [] = []
quoted (word ∷ words) = 34 ∷ (escaped word ++ (34 ∷ 32 ∷ quoted words))
