use Rattle.thorin_join.proofs.Terms.{drop, Err, inl, inr, List, map-append, [], ◌++◌, ◌+◌, ◌∷◌, ◌≡◌}
use Rattle.std.proofs.lemmas.{List.drop_more, Result.err_from_is_err_and, Result.IfOk-weaker}
use Rattle.thorin.specs.Groups.{bytes_in, groups_in, PacksAlone, PacksInGroups}
use Rattle.{std.proofs.lemmas.List.map_more, thorin.proofs.Running.packed-more}
use Rattle.thorin_join.proofs.Terms.{Ok, take, take-append-drop, ℕ}
use Rattle.std.proofs.Common.{Bor, get_or, rules, take_all}
use Rattle.thorin.proofs.groups.pack_groups.Goals as goal

abbrev none : Bor (List (Bor (List ℕ)))
none = record { ref_ptr = (0, 0); now = [] }

abbrev inputs_in : Bor (List (Bor (List ℕ))) → List (List ℕ)
inputs_in group = bytes_in group.now

pub loop-group-preserved : goal.loop-group-preserved
loop-group-preserved g c =
    let groups = c.args.groups.now in
    let i = c.loop-group.group-index in
    let item = get_or groups i none in
    let done = groups_in (take i groups) in
    let file = c.in_ok-package.package.items in
    let next : groups_in (take (i + 1) groups) ≡ done ++ bytes_in item.now ∷ [] =
    map_more inputs_in groups i none c.loop-group-test.true in
    let placed : c.in_ok-alloc_data.field-0.now ≡ file = c.in_ok-alloc_data.ensures in
    let pushed : c.push.new.self.items ≡ c.loop-group.packages.items ++ c.in_ok-alloc_data.field-0 ∷
    [] = search (rules, c.in_ok-push.ensures.items) in
    rw (next, pushed, map-append, placed) (packed-more done (bytes_in c.loop-group.packages.items)
    (bytes_in item.now) file c.loop-group.invariant c.in_ok-package.ensures)

pub returns-in_err-package : goal.returns-in_err-package
returns-in_err-package g c =
    let groups = c.args.groups.now in
    let i = c.loop-group.group-index in
    let item = get_or groups i none in
    let less = c.loop-group-test.true in
    let around : groups_in groups ≡ groups_in (take i groups) ++ inputs_in item
    ∷ groups_in (drop (i + 1) groups) =
    grind (rules, take-append-drop i groups, map-append inputs_in, drop_more groups i none less) in
    let p = err_from_is_err_and c.from_residual-in_err-package.result
    c.from_residual-in_err-package.ensures.1 in
    record {
      packed = rw (p.1, p.2) (λ aside. inl (record {
        before = groups_in (take i groups);
        group = bytes_in item.now;
        after = groups_in (drop (i + 1) groups);
        are = around;
        packages = bytes_in c.loop-group.packages.items;
        each = c.loop-group.invariant;
        refused = c.in_err-package.ensures aside;
      }));
      joined = rw p.1 tt;
    }

pub returns : goal.returns
returns g c =
    let groups = c.args.groups.now in
    let packages = bytes_in c.deref.result.now in
    let whole = take_all c.loop-group.group-index groups c.loop-group-test.false in
    let each = rw (whole, ← c.deref.ensures.value) at c.loop-group.invariant in
    record {
      packed = elim c.pack_alone-2.result as (λ r. PacksAlone (λ file. file.items) packages r
          → PacksInGroups (λ file. file.items) (groups_in groups) r) [
            | Ok file ↦ λ p. record { packages = packages; each = each; together = p }
            | Err e ↦ λ p aside.
                inr (record { packages = packages; each = each; refused = p aside })
          ] c.pack_alone-2.ensures;
      joined = IfOk-weaker c.pack_alone-2.result (λ file. Unit {0}) _ (λ file x.
          c.groups_are_packed_alike.ensures.joined (groups_in groups) file.items) (grind rules);
    }
