use Rattle.std.proofs.Common.{ap, arith, false, is_none, is_some, refl, sym, true, ◌-◌, ◌∙◌, ◌≡◌}
use Rattle.dwp_index.proofs.Indexes.{among, done, ends, further, none_yet, one_more, says_none}
use Rattle.dwp_index.proofs.Indexes.{length-numbers, numbers_more, says_some}
use Rattle.dwp_index.specs.{IndexBytes.numbers, Places.NO_COLUMN}
use Rattle.dwp_table.specs.Columns.{kind_of_column}
use Rattle.dwp_index.proofs.parsing.read_columns.Goals as goal

pub loop-i-init : goal.loop-i-init
loop-i-init c = record {
  within = omega arith;
  so_far = let whole : c.args.count - 0 ≡ c.args.count = omega arith in rw whole refl;
  places = none_yet c.same-places.result c.args.version (c.same-places.ensures.each NO_COLUMN);
}

pub returns-then-bytes-at-clause-exact : goal.returns-then-bytes-at-clause-exact
returns-then-bytes-at-clause-exact c = sym c.loop-i.invariant.so_far ∙ ends c.args.order
    c.args.version c.args.bytes.now c.args.count c.loop-i.i c.loop-i-test.true (omega arith)

pub returns-in_default-clause-exact : goal.returns-in_default-clause-exact
returns-in_default-clause-exact c =
    let none = ap (λ n. is_none (kind_of_column c.args.version n))
    (sym c.read_u32_at-number.ensures) ∙ ap is_none (sym c.kind_of_column.ensures) ∙ ap is_none
    c.in_default.is in sym c.loop-i.invariant.so_far ∙ further c.args.order c.args.version
    c.args.bytes.now c.args.count c.loop-i.i c.loop-i-test.true (omega arith) true _ none refl

pub returns-then-get-clause-exact : goal.returns-then-get-clause-exact
returns-then-get-clause-exact c =
    let i = c.loop-i.i in
    let bytes = c.args.bytes.now in
    let named = ap (kind_of_column c.args.version) (sym c.read_u32_at-number.ensures) ∙ sym
    c.kind_of_column.ensures ∙ c.in-Some.is in
    let again = among c.args.version _ (numbers c.args.order 4 i bytes) c.in-Some.kind named
    ∙ ap is_some (says_some i _ _ _ (c.loop-i.invariant.places c.in-Some.kind)
    (sym (c.get.ensures.value NO_COLUMN)) c.if-get.true).0 in
    sym c.loop-i.invariant.so_far ∙ further c.args.order c.args.version bytes c.args.count i
    c.loop-i-test.true (omega arith) false true (ap is_none named) again

pub loop-i-preserved : goal.loop-i-preserved
loop-i-preserved c =
    let i = c.loop-i.i in
    let bytes = c.args.bytes.now in
    let named = ap (kind_of_column c.args.version) (sym c.read_u32_at-number.ensures) ∙ sym
    c.kind_of_column.ensures ∙ c.in-Some.is in
    let none = c.get.ensures.value NO_COLUMN ∙ c.if-get.false in
    let fresh = among c.args.version _ (numbers c.args.order 4 i bytes) c.in-Some.kind named
    ∙ ap is_some (says_none i _ _ _ (c.loop-i.invariant.places c.in-Some.kind) refl none) in
    record {
      within = omega arith;
      so_far = sym (further c.args.order c.args.version bytes c.args.count i c.loop-i-test.true
          (omega arith) false false (ap is_none named) fresh) ∙ c.loop-i.invariant.so_far;
      places = one_more _ _ c.args.version i _ (numbers c.args.order 4 i bytes) _ c.in-Some.kind
          (numbers_more c.args.order 4 i bytes) (length-numbers c.args.order 4 i bytes)
          (omega arith) c.loop-i.invariant.places named none (c.set.ensures.each NO_COLUMN);
    }

pub returns-clause-exact : goal.returns-clause-exact
returns-clause-exact c =
    let all : c.loop-i.i ≡ c.args.count = omega arith in
    sym c.loop-i.invariant.so_far ∙ done c.args.order c.args.version c.args.bytes.now c.args.count
    c.loop-i.i c.loop-i-test.false ∙ rw (all, c.tail.ensures) refl
