use Rattle.std.proofs.Common.{sym, subst, IsAscii, IsUtf8, rules}
use Rattle.std.proofs.lemmas.Str.{IsUtf8-from_ascii}
use Rattle.romaji_rules.proofs.pending.Pending.as_str.Goals as goal

pub unwrap-requires : goal.unwrap-requires
unwrap-requires c =
    let text = c.as_slice.result.now in
    let utf8 : IsUtf8 text =
    IsUtf8-from_ascii text (subst IsAscii (sym c.as_slice.ensures.value) c.as_slice.ensures.ascii) in
    search rules
