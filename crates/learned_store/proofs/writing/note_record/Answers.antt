use Rattle.std.proofs.Common.{◌&&◌, nat_le, refl}
use Rattle.std.proofs.Math.Facts.{Fits-lt-pow}
use Rattle.std.proofs.lemmas.Bool.{and_from, and_parts}
use Rattle.std.specs.Str.{all_scalars}
use Rattle.skk_calls.specs.Canonical.{item}
use Rattle.skk_calls.specs.Rows.{is_cand, is_row_key}
use Rattle.learned_store.specs.Payloads.{are_held}
use Rattle.learned_store.proofs.ReadForms.{held}
use Rattle.learned_store.proofs.writing.note_record.Goals as goal

pub returns : goal.returns
returns c = record {
  is = c.in_ok-payload.ensures.payload;
  version = refl;
  sound = λ stands.
      let book = c.args.book in
      let count = c.args.count in
      let key = c.args.key.now in
      let cand = c.args.cand.now in
      let texts = all_scalars key.reading && all_scalars (item cand) in
      let some = and_parts (nat_le 1 count) (is_row_key key && is_cand cand) stands in
      let valid = and_parts (is_row_key key) (is_cand cand) some.1 in
      and_from (are_held book count) (nat_le 1 count && (is_row_key key && (is_cand cand && texts)))
      (held book count (Fits-lt-pow c.ranges.book) (Fits-lt-pow c.ranges.count))
      (and_from (nat_le 1 count) (is_row_key key && (is_cand cand && texts)) some.0
      (and_from (is_row_key key) (is_cand cand && texts) valid.0
      (and_from (is_cand cand) texts valid.1 c.in_ok-payload.ensures.characters)));
}
