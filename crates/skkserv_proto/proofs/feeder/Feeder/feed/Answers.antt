use Rattle.std.proofs.Common.{◌≡◌, ◌++◌, ◌∙◌, List, ℕ, rules, subst, sym}
use Rattle.skkserv_proto.specs.Feeding.{Fed, IsMoved}
use Rattle.skkserv_proto.specs.Requests.{requests}
use Rattle.skkserv_proto.proofs.Feeds.{bad-place, no-bad-place}
use Rattle.skkserv_proto.proofs.feeder.Feeder.feed.Goals as goal

-- the feeder with these bytes more, whatever it was fed
later : (c : goal.After-drop-read-2) (before : List ℕ) → Fed before c.args.self.now
    → Fed (before ++ c.args.bytes.now)
    (record { place = c.move_to.new.place; fed = c.saturating_add-self-inside.result })
    × (requests (before ++ c.args.bytes.now) ≡ requests before ++ c.in-Ok.read.items)
later c before fed =
    let moved : IsMoved c.self.inside.place c.args.bytes.now c.in-Ok.next c.move_to.new.place = search rules in
    let both = c.in-Ok.ensures.reads c.move_to.new.place moved before (subst (Fed before) (sym c.self.view_is) fed) in
    ((both.0.0, c.saturating_add-self-inside.ensures ∙ both.0.1), both.1)

pub returns-clause-reads : goal.returns-clause-reads
returns-clause-reads c no_memory = (c.in-Ok.read.items, search rules, later c)

pub returns-clause-bad : goal.returns-clause-bad
returns-clause-bad c at is before fed =
    bad-place (before ++ c.args.bytes.now)
    (record { place = c.move_to.new.place; fed = c.saturating_add-self-inside.result }) at (c.told.ensures.bad at is)
    (later c before fed).0

pub returns-clause-good : goal.returns-clause-good
returns-clause-good c is before fed =
    no-bad-place (before ++ c.args.bytes.now)
    (record { place = c.move_to.new.place; fed = c.saturating_add-self-inside.result }) (c.told.ensures.good is)
    (later c before fed).0
