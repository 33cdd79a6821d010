use Rattle.std.proofs.Common.{◌∙◌, sym}
use Rattle.std.specs.Option.{option_to_list}
use Rattle.romaji_rules.specs.Pieces.{out_in}
use Rattle.kana_input.proofs.Rooms.{lacks, fits}
use Rattle.kana_input.proofs.insertion.Insertion.fits_in.Goals as goal

pub returns-in_default : goal.returns-in_default
returns-in_default c =
    rw (← c.self.view_is)
    (lacks c.args.room (out_in c.self.inside.kana c.self.inside.out) (option_to_list c.self.inside.behind)
    (sym c.room_behind.ensures ∙ c.in_default.is))

pub returns-in-Some-behind : goal.returns-in-Some-behind
returns-in-Some-behind c =
    rw (← c.self.view_is, c.in-Some-behind.is, c.len_utf8.ensures.len)
    (fits c.args.room c.in-Some.left (out_in c.self.inside.kana c.self.inside.out) c.in-Some-behind.c
    (sym c.room_behind.ensures ∙ c.in-Some.is))
