use Rattle.std.proofs.Common.{ap, append_assoc, codes, string_bytes, sym, ◌++◌, ◌∙◌}
use Rattle.thorin_print.specs.{declared.form.Form.TheVariants.Json, Spelled.spelled}
use Rattle.thorin_find.{proofs.Pieces.both, specs.Lines.json_unit}
use Rattle.thorin_check.proofs.faults.put_members.Goals as goal

pub returns-in_ok-push_str-in-Unit : goal.returns-in_ok-push_str-in-Unit
returns-in_ok-push_str-in-Unit c =
    let unit = json_unit c.in-Unit.object in
    let next = codes "\",\"fault\":\"" in
    both c.put_spelled.result (string_bytes c.args.text.now) (string_bytes c.push_str.new.self)
    (string_bytes c.put_spelled.new.text) (unit ++ next) (spelled Json c.as_bytes.result.now) _
    c.put_spelled.ensures (c.in_ok-push_str-in-Unit.ensures.bytes ∙ ap (λ t. t ++ next)
    c.in_ok-put_json_unit-in-Unit.ensures ∙ append_assoc (string_bytes c.args.text.now) unit next)
    (rw (c.in-Unit.is, c.as_bytes.ensures.value)
    (sym (append_assoc unit next (spelled Json c.in-Unit.what.now))))
