use Rattle.std.proofs.Common.{ap₂, List, rules, sym, take-append-drop, ℕ, ◌++◌, ◌∙◌}
use Rattle.dwp_decompress.specs.Names.{plain_name}
use Rattle.dwp_decompress.proofs.agree.is_plain_name.Goals as goal

pub returns-then-is_older : goal.returns-then-is_older
unfolding plain_name
returns-then-is_older c t =
    let both = c.goes_on.ensures t in
    let bytes = c.as_bytes-then-is_older.ensures.value in
    rw (sym c.is_older.ensures ∙ c.if-is_older.true) (sym (take-append-drop 7 c.args.new.now)
    ∙ ap₂ (λ (a b : List ℕ). a ++ b) (rw bytes at both.0)
    (rw (bytes, c.as_bytes.ensures.value) at both.1))

pub returns-else-is_older : goal.returns-else-is_older
unfolding plain_name
returns-else-is_older c t = rw (sym c.is_older.ensures ∙ c.if-is_older.false) (search rules)
