use Rattle.std.proofs.Common.{◌∙◌, arith, refl, sym}
use Rattle.std.proofs.lemmas.Bool.{and_parts}
use Rattle.std.proofs.lemmas.List.{nil_from_length}
use Rattle.std.proofs.lemmas.List.Sums.{count_by-le-length, length-filter}
use Rattle.skk_calls.specs.Rows.{keys_differ}
use Rattle.skk_calls.specs.declared.part.Part.TheVariants.{Nasi}
use Rattle.dict_files.specs.FilePlaces.{file_rows, is_above, reading_at}
use Rattle.dict_files.specs.PlacesOfParts.{marked_in}
use Rattle.dict_files.proofs.FileWalk.{walk_comes, walk_ended, walk_next, walk_starts}
use Rattle.dict_files.proofs.InOrder.{entries_valid}
use Rattle.dict_files.proofs.dictionary_file.DictionaryFile.reading_above.Goals as goal

pub marked_behind_equal-places-requires-clause-rise : goal.marked_behind_equal-places-requires-clause-rise
marked_behind_equal-places-requires-clause-rise c =
    rw (c.as_slice-bytes.ensures, c.deref.ensures.value, c.of-nasi.ensures) (c.self.invariant.parts Nasi).rise

pub marked_behind_equal-places-requires-clause-marks : goal.marked_behind_equal-places-requires-clause-marks
marked_behind_equal-places-requires-clause-marks c =
    rw (c.as_slice-bytes.ensures, c.deref.ensures.value, c.as_slice.ensures, c.of-nasi.ensures)
    (c.self.invariant.marks Nasi)

pub loop-place-init : goal.loop-place-init
loop-place-init c =
    let bytes = c.self.inside.bytes in
    let low = c.as_bytes.ensures.value ∙ c.as_str.ensures.value in
    rw (
      c.marked_behind_equal-places.ensures,
      c.as_slice-bytes.ensures,
      c.deref.ensures.value,
      c.of-nasi.ensures,
      low,
      sym c.self.view_is,
    )
    (walk_starts bytes c.args.low.now (marked_in c.self.inside.places Nasi).places.items (c.self.invariant.parts Nasi)
    (and_parts _ (keys_differ (file_rows bytes)) c.self.invariant.rows).1)

pub walked_at-requires-clause-first : goal.walked_at-requires-clause-first
walked_at-requires-clause-first c = (c.in-Some.later.now, c.in-Some.ensures.cases.0)

pub walked_at-requires-clause-valid : goal.walked_at-requires-clause-valid
walked_at-requires-clause-valid c = entries_valid Nasi c.as_slice-bytes.result.now _ c.loop-place.invariant.entries

pub returns-in-Some-2 : goal.returns-in-Some-2
returns-in-Some-2 c =
    walk_comes c.args.self.now c.as_slice-bytes.result.now c.args.low.now c.in-Some.place.now c.in-Some.later.now
    (rw c.in-Some.ensures.cases.0 at c.loop-place.invariant)
    (reading_at c.as_slice-bytes.result.now c.in-Some.place.now) refl _ c.in-Some-2.next refl
    (rw c.in-Some.ensures.cases.0 at (sym c.in-Some-2.is ∙ c.in_ok-next.ensures))

pub loop-place-smaller : goal.loop-place-smaller
loop-place-smaller c =
    let above = is_above c.as_slice-bytes.result.now c.reading_at.result.now in
    let later = c.in-Some.later.now in
    rw c.behind_equal-places.ensures
    (omega (arith, c.in-Some.ensures.cases.1, length-filter above later, count_by-le-length above later))

pub loop-place-preserved : goal.loop-place-preserved
loop-place-preserved c =
    rw (c.behind_equal-places.ensures, c.reading_at.ensures)
    (walk_next c.args.self.now c.as_slice-bytes.result.now c.args.low.now c.in-Some.place.now c.in-Some.later.now
    (rw c.in-Some.ensures.cases.0 at c.loop-place.invariant)
    (reading_at c.as_slice-bytes.result.now c.in-Some.place.now) refl _ refl
    (rw c.in-Some.ensures.cases.0 at (sym c.in_ok-next.ensures ∙ c.in_default-2.is)))

pub returns : goal.returns
returns c =
    walk_ended c.args.self.now c.as_slice-bytes.result.now c.args.low.now
    (rw (nil_from_length c.loop-place.places.now c.in_default.ensures.cases) at c.loop-place.invariant)
