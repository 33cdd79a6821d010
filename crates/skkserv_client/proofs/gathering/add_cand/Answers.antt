use Rattle.std.proofs.Common.{map, None, Some, refl}
use Rattle.word_sets.specs.Strings.{as_cand}
use Rattle.skkserv_client.proofs.Gathered.{adds_none, adds_some, is_too_long, read_as, read_long}
use Rattle.skkserv_client.proofs.gathering.add_cand.Goals as goal

pub returns-in-Ok-Some : goal.returns-in-Ok-Some
returns-in-Ok-Some c =
    let cand = c.in-Ok-Some.cand in
    adds_some c.args.item (map as_cand c.args.cands.now) (map as_cand c.insert.new.cands) cand
    (read_as c.args.item c.read_item.result c.in-Ok-Some.field-0 (Some cand) c.read_item.ensures c.in-Ok-Some.is
    c.in-Ok-Some.field-0-is) c.in_ok-insert-in-Ok-Some.ensures.valid c.in_ok-insert-in-Ok-Some.ensures.added

pub returns-in-Ok-None : goal.returns-in-Ok-None
returns-in-Ok-None c =
    adds_none c.args.item (map as_cand c.args.cands.now) (map as_cand c.args.cands.now)
    (read_as c.args.item c.read_item.result c.in-Ok-None.field-0 None c.read_item.ensures c.in-Ok-None.is
    c.in-Ok-None.field-0-is) refl

pub returns-in-Err-Long : goal.returns-in-Err-Long
returns-in-Err-Long c = (
  is_too_long c.args.item
      (read_long c.args.item c.read_item.result c.in-Err-Long.field-0 c.read_item.ensures c.in-Err-Long.is
      c.in-Err-Long.field-0-is),
  refl,
)
