use Rattle.std.proofs.Common.{◌∙◌, ap, sym, subst, refl, Some}
use Rattle.std.specs.Str.{chars, IsUtf8}
use Rattle.std.proofs.lemmas.Str.{is_utf8-from_IsUtf8}
use Rattle.skkserv_proto.proofs.Texts.{no-text}
use Rattle.skkserv_proto.proofs.calling.text_of.Goals as goal

pub returns-in_ok-from_str-in-Ok : goal.returns-in_ok-from_str-in-Ok
returns-in_ok-from_str-in-Ok c =
    let read = c.in-Ok.ensures.cases in
    rw (is_utf8-from_IsUtf8 c.args.bytes.now (subst IsUtf8 c.as_slice.ensures read.1))
    (ap Some (c.in_ok-from_str-in-Ok.ensures ∙ ap chars (read.0 ∙ c.as_slice.ensures)))

pub returns-in-Err : goal.returns-in-Err
returns-in-Err c =
    rw (no-text c.args.bytes.now (λ valid. c.in-Err.ensures.cases.0 (subst IsUtf8 (sym c.as_slice.ensures) valid))) refl
