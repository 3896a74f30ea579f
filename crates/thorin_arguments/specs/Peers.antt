-- The names under which the program takes the command lines of its peers.
use Rattle.std.specs.Prelude.{ℕ, ◌-◌, ◌==◌, ◌||◌, ◌&&◌, nat_lt, Bool, false, List, [], ◌∷◌, length}
use Rattle.std.specs.Prelude.{take, codes, if◌then◌else◌, Option, Some, None}
use Rattle.std.specs.Str.{bytes_eq}

-- what stands behind the last of a mark, all where there is none: the rest of a text is gone
-- through, and a part of it is what stands behind the last mark so far
abbrev pub last_part_in : (mark : ℕ) → (part rest : List ℕ) → List ℕ
last_part_in mark part [] = part
last_part_in mark part (b ∷ rest) =
    last_part_in mark (if b == mark then rest else part) rest

abbrev pub last_part : (mark : ℕ) → List ℕ → List ℕ
last_part mark text = last_part_in mark text text

-- what stands before that mark
abbrev pub before_last : (mark : ℕ) → List ℕ → List ℕ
before_last mark text = take (length text - length (last_part mark text) - 1) text

-- a version begins with a digit
abbrev pub is_version : List ℕ → Bool
is_version [] = false
is_version (b ∷ rest) = nat_lt 47 b && nat_lt b 58

unfoldable pub is_dwp : List ℕ → Bool
is_dwp part = bytes_eq part (codes "dwp")

-- a name without folders whose last part is `dwp`, a version aside: `dwp`, `llvm-dwp`,
-- `llvm-dwp-19`, `x86_64-linux-gnu-dwp`
unfoldable pub has_peer_name : List ℕ → Bool
has_peer_name name = is_dwp (last_part 45 name)
    || (is_version (last_part 45 name) && is_dwp (last_part 45 (before_last 45 name)))

unfoldable pub is_peer : List ℕ → Bool
is_peer program = has_peer_name (last_part 47 program)

-- the name without folders, where the first word of a line is that of a peer
abbrev pub peer_of : List (List ℕ) → Option (List ℕ)
peer_of [] = None
peer_of (program ∷ line) = if is_peer program then Some (last_part 47 program) else None
