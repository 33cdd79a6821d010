use Rattle.std.proofs.Common.{◌≡◌, true, encode_utf8_all, ap, sym, ◌∙◌, arith}
use Rattle.std.proofs.lemmas.Bool.Decides.{Decides-eqb}
use Rattle.std.proofs.lemmas.Slice.Eq.{slice_eq-Decides}
use Rattle.std.specs.Str.{all_scalars}
use Rattle.skk_calls.specs.Canonical.{canonical}
use Rattle.skk_calls.specs.Rows.{Row, RowKey}
use Rattle.learned_store.specs.Payloads.{part_byte}
use Rattle.learned_store.proofs.Spelled.{spelled_stamped, utf8_scalars}
use Rattle.learned_store.proofs.stamped_row.StampedRow.is_spelled.Goals as goal

pub returns : goal.returns
returns c same =
    let row = c.deref-row.result.now in
    let is : record row { stamp = c.self.inside.stamp } ≡ c.args.self.now =
    ap (λ (r : Row). record r { stamp = c.self.inside.stamp }) c.deref-row.ensures ∙ c.self.view_is in
    let byte : c.in-Some.part.now ≡ c.part_byte.result = omega (arith, c.if-part-part_byte.false) in
    let part : c.in-Some.part.now ≡ part_byte row.key.part =
    byte ∙ c.part_byte.ensures
    ∙ ap part_byte (c.part.ensures.value ∙ ap (λ (key : RowKey). key.part) c.key.ensures.value) in
    let line : c.as_bytes.result.now ≡ c.in-Some.line.now =
    (slice_eq-Decides Decides-eqb _ _ _ c.eq.ensures).0 same in
    let own : c.as_bytes.result.now ≡ encode_utf8_all (canonical row) =
    c.as_bytes.ensures.value ∙ c.as_str.ensures.value ∙ ap encode_utf8_all c.in_ok-own.ensures.canonical in
    let characters : all_scalars (canonical row) ≡ true =
    utf8_scalars (canonical row) c.as_bytes.result.now c.as_bytes.ensures.utf8 own in
    spelled_stamped row c.args.self.now c.self.inside.stamp c.in-Some.part.now c.in-Some.line.now c.args.bytes.now is
    c.in-Some.ensures.cases.0 part (sym line ∙ own) characters
