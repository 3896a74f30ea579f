use Rattle.thorin_c.{proofs.Lists.first_more, specs.declared.types.ThorinSkeleton.ThorinSkeleton}
use Rattle.std.proofs.Common.{ap, length, map, refl, take, [], ◌++◌, ◌+◌, ◌∙◌, ◌∷◌, ◌≡◌}
use Rattle.thorin_c.specs.Skeletons.{paths_of, skeleton_named}
use Rattle.thorin_c.proofs.units.FirstUnits.add.Goals as goal

pub returns : goal.returns
returns c = λ units h.
    let room = c.args.room in
    let bytes = c.as_bytes-bytes.ensures.value in
    let named = map skeleton_named units in
    let unit : ThorinSkeleton = record {
      id = c.index.result;
      path_size = length c.as_bytes-bytes.result.now;
      kind = c.kind_number.result;
    } in
    let same : unit ≡ skeleton_named (c.args.target, c.args.path.now) =
    rw (c.index.ensures, c.kind_number.ensures, bytes) refl in
    let names = c.in_ok-put.ensures named h.names
    ∙ ap (λ s. take room.names (named ++ s ∷ [])) same in
    let paths = c.in_ok-put-3.ensures _ (c.in_ok-put-2.ensures (paths_of units) h.paths)
    ∙ ap (λ b. take room.paths ((paths_of units ++ b) ++ 0 ∷ [])) bytes in
    let size = c.in_ok-self-2.ensures ∙ ap (λ n. n + 1) (c.in_ok-sum.ensures
    ∙ ap (λ b. c.args.self.now.size + length b) bytes) in
    first_more room units (c.args.target, c.args.path.now) c.args.self.now _ h names paths
    c.in_ok-self.ensures size
