-- What each status means.
use Rattle.std.specs.Prelude.{ℕ, ℤ, pos, negsuc, List, codes, ◌==◌, if◌then◌else◌}

abbrev pub text_of : ℕ → List ℕ
text_of n =
    if n == 0 then codes "Done"
    else (if n == 1 then codes "The package has no such unit"
    else (if n == 2 then codes "No such kind of units"
    else (if n == 3 then codes "Malformed ELF file"
    else (if n == 4 then codes "Malformed index"
    else (if n == 5 then codes "Range of a unit is outside its section"
    else (if n == 6 then codes "Malformed unit"
    else (if n == 7 then codes "No such section"
    else (if n == 8 then codes "The unit has no such string"
    else (if n == 9 then codes "Malformed string"
    else (if n == 10 then codes "Too little room"
    else (if n == 11 then codes "An input was refused"
    else (if n == 12 then codes "The package can't be finished"
    else (if n == 13 then codes "Out of memory"
    else (if n == 14 then codes "No section is compressed"
    else (if n == 15 then codes "A compressed section is damaged"
    else (if n == 16 then codes "A section isn't compressed by zlib or zstd"
    else (if n == 17 then codes "The plain file can't be written"
    else (if n == 18 then codes "A section compressed by zstd is damaged"
    else codes "No such status"))))))))))))))))))

abbrev pub status_text : ℤ → List ℕ
status_text (pos n) = text_of n
status_text (negsuc n) = codes "No such status"
