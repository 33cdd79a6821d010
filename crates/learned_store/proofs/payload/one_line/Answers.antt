use Rattle.std.proofs.Common.{◌≡◌, ◌++◌, ◌∷◌, [], ◌∙◌, append_assoc, refl, arith}
use Rattle.std.specs.Str.{chars}
use Rattle.learned_store.proofs.payload.one_line.Goals as goal

-- a space and a slash
space_slash : chars (0x20 ∷ 0x2F ∷ []) ≡ 0x20 ∷ 0x2F ∷ []
unfolding chars
space_slash = refl

pub returns : goal.returns
returns c =
    let reading = c.args.reading.now in
    let item = c.args.item.now in
    let first : c.push_str.new.self ≡ reading =
    grind (arith, c.in_ok-push_str.ensures.ok, c.new-line.ensures, c.as_str.ensures.characters) in
    let second : c.push_str-2.new.self ≡ reading ++ 0x20 ∷ 0x2F ∷ [] =
    grind (arith, c.in_ok-push_str-2.ensures.ok, first, space_slash) in
    let third : c.push_str-3.new.self ≡ (reading ++ 0x20 ∷ 0x2F ∷ []) ++ item =
    grind (arith, c.in_ok-push_str-3.ensures.ok, second, c.as_str-2.ensures.characters) in
    let fourth : c.push.new.self ≡ ((reading ++ 0x20 ∷ 0x2F ∷ []) ++ item) ++ 0x2F ∷ [] =
    grind (arith, c.in_ok-push.ensures.ok, third) in
    fourth
    ∙ (append_assoc (reading ++ 0x20 ∷ 0x2F ∷ []) item (0x2F ∷ [])
    ∙ append_assoc reading (0x20 ∷ 0x2F ∷ []) (item ++ 0x2F ∷ []))
