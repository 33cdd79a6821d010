use Rattle.std.proofs.Common.{◌∙◌, sym}
use Rattle.romaji_rules.specs.Pieces.{piece_out}
use Rattle.romaji_rules.proofs.Rooms.{room_behind-lacks, room_behind-fits}
use Rattle.romaji_rules.proofs.out_ref.OutRef.room_behind.Goals as goal

pub returns-in_err-left : goal.returns-in_err-left
returns-in_err-left c =
    rw (← c.self.view_is)
    (c.from_residual.ensures
    ∙ room_behind-lacks c.args.kana (piece_out c.self.inside.flushed) (piece_out c.self.inside.fed) c.args.room
    (sym c.room_behind.ensures ∙ c.in_err-left.was))

pub returns : goal.returns
returns c =
    rw (← c.self.view_is)
    (c.room_behind-2.ensures
    ∙ room_behind-fits c.args.kana (piece_out c.self.inside.flushed) (piece_out c.self.inside.fed) c.args.room
    c.in_ok-left.left (sym c.room_behind.ensures ∙ c.in_ok-left.was))
