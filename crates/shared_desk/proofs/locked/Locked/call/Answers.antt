use Rattle.std.proofs.Common.{◌≡◌, ◌∙◌, ap, sym, subst, [], ◌∷◌, ◌++◌, None}
use Rattle.skk_calls.specs.declared.chronicle.Noted.{Noted}
use Rattle.skk_calls.specs.declared.chronicle.Noted.TheVariants.{Entered}
use Rattle.skk_calls.specs.declared.entry.Entry.{Entry}
use Rattle.skk_calls.specs.Chronicles.{history_of}
use Rattle.skk_calls.specs.Histories.{IsLegal}
use Rattle.skk_calls.specs.HistoryLaws.{history-more}
use Rattle.desk_history.specs.Seats.{PenState, CallerState}
use Rattle.learned_store.specs.Limits.{AllHadRoom}
use Rattle.shared_desk.proofs.locked.Locked.call.Goals as goal

pub invariant_of-self : goal.invariant_of-self
invariant_of-self g c =
    let notes = c.self.inside.noting.notes in
    let disk = c.serve_over-answer.new.self.store.journal.disk in
    let call = c.args.call.now in
    let given = c.serve_over-answer.result in
    let time = g.D.Disk.time disk in
    let faults = g.D.Disk.faults disk in
    let note : Noted = Entered c.args.seat.now.number call given time faults in
    let entry : Entry = record { number = c.args.seat.now.number; call = call; answer = given } in
    let noted : c.serve_over-answer.new.self.notes ≡ notes ++ note ∷ [] =
    c.serve_over-answer.ensures.notes ∙ ap (λ n. notes ++ Entered n call given time faults ∷ []) c.number.ensures in
    let history : history_of c.serve_over-answer.new.self.notes ≡ history_of notes ++ entry ∷ [] =
    ap history_of noted ∙ history-more notes note in
    c.enter.ensures.pen
    ∙ ap (λ (p : PenState). record p { seen = p.seen ++ entry ∷ [] }) c.self.invariant
    ∙ ap (λ h. record { table = g.N.DeskName.table; seen = h; ended = []; roll = None }) (sym history)

pub returns-clause-told : goal.returns-clause-told
returns-clause-told g c =
    let entry : Entry =
    record { number = c.args.seat.now.number; call = c.args.call.now; answer = c.serve_over-answer.result } in
    let seen : c.enter.new.seat.seen ≡ c.self.inside.pen.seen ++ entry ∷ [] =
    ap (λ (s : CallerState). s.seen) c.enter.ensures.seat ∙ ap (λ (p : PenState). p.seen) c.enter.ensures.pen in
    let whole : c.enter.new.seat.seen ≡ history_of c.serve_over-answer.new.self.notes =
    ap (λ (s : CallerState). s.seen) c.enter.ensures.seat
    ∙ ap (λ (p : PenState). p.seen) (invariant_of-self g c) in
    record {
      earlier = c.self.inside.pen.seen;
      begins = c.enter.ensures.earlier;
      own = c.enter.ensures.own;
      ends = seen;
      mine = ap (λ (s : CallerState). s.mine) c.enter.ensures.seat;
      number = ap (λ (s : CallerState). s.number) c.enter.ensures.seat;
      legal = subst (IsLegal g.N.OpeningName.opening) (sym whole) c.store-store.ensures.stands.legal.1;
      fits = subst (AllHadRoom g.N.OpeningName.opening) (sym whole) c.store-store.ensures.stands.fits;
    }
