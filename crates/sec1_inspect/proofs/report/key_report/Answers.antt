use Rattle.std.proofs.Common.{◌≡◌, string_bytes, ap, append_assoc, refl}
use Rattle.sec1_inspect.specs.Report.{key_lines}
use Rattle.sec1_inspect.proofs.report.key_report.Goals as goal

pub returns : goal.returns
returns c =
    let point = string_bytes c.in_ok-point.point in
    let private_key : c.key.inside.private_key.now ≡ c.args.key.now.private_key =
    ap (λ key. key.private_key) c.key.view_is in
    let written = rw (private_key, c.in_ok-parameters.ensures, c.in_ok-public_key.ensures) at c.in_ok-text.ensures.ok in
    let lines : string_bytes c.in_ok-text.text ≡ key_lines c.args.key.now point = simp append_assoc written in
    record { point = point; point_text = c.in_ok-point.ensures; lines = lines; accepted = refl }
