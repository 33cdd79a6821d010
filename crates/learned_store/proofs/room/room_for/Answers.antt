use Rattle.std.proofs.Common.{◌∙◌, ap, arith}
use Rattle.std.proofs.lemmas.Bool.Decides.{nat_tests}
use Rattle.skk_journal.specs.Records.{need}
use Rattle.learned_store.proofs.room.room_for.Goals as goal

-- the record does not go behind the others, and there is room behind a compaction
pub returns-in_ok-live_records : goal.returns-in_ok-live_records
returns-in_ok-live_records g c =
    let needs = c.record_need-need.ensures ∙ ap need c.as_slice.ensures in (
      grind (arith, c.goes_behind.ensures, c.if-goes_behind.false, c.version.ensures.live, c.end-end.ensures, needs),
      grind (
        arith,
        nat_tests,
        c.fits.ensures,
        c.if-fits.true,
        c.tight_end-least.ensures,
        c.requires.tight,
        c.end-end.ensures,
        needs,
      ),
      c.in_ok-live_records.ensures,
    )

-- nor there
pub returns-else-fits : goal.returns-else-fits
returns-else-fits g c =
    let needs = c.record_need-need.ensures ∙ ap need c.as_slice.ensures in (
      grind (arith, c.goes_behind.ensures, c.if-goes_behind.false, c.version.ensures.live, c.end-end.ensures, needs),
      grind (arith, c.tight_end-least.ensures, c.requires.tight, c.end-end.ensures),
      grind (
        arith,
        nat_tests,
        c.fits.ensures,
        c.if-fits.false,
        c.tight_end-least.ensures,
        c.requires.tight,
        c.end-end.ensures,
        needs,
      ),
    )
