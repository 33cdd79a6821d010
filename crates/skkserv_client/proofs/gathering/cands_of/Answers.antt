use Rattle.std.proofs.Common.{◌≡◌, ◌∙◌, ◌<◌, ◌+◌, ◌^◌, ◌∷◌, [], ap, arith, drop, length, map, subst, sym}
use Rattle.std.specs.List.{flat_map, list_all}
use Rattle.std.proofs.lemmas.Bool.{and_parts}
use Rattle.std.proofs.lemmas.List.{drop_more}
use Rattle.skk_text.specs.Text.{byte_len}
use Rattle.skk_calls.specs.Canonical.{with_slash}
use Rattle.word_sets.specs.Strings.{as_cand}
use Rattle.exact_readers.specs.Lacking.{lacks}
use Rattle.dict_format.specs.Views.{texts_seen}
use Rattle.skkserv_client.specs.Gathering.{gathered}
use Rattle.skkserv_client.proofs.Gathered.{gathered-one, room_behind}
use Rattle.skkserv_client.proofs.gathering.cands_of.Goals as goal

pub place_behind-behind-requires : goal.place_behind-behind-requires
place_behind-behind-requires c =
    let texts = c.args.texts.now in
    let i = c.loop-text.text-index in
    let lt : i < length texts = omega (arith, c.loop-text-test.true) in
    let split = ap texts_seen (drop_more texts i (record { ref_ptr = (0, 0); now = [] }) lt) in
    let room = room_behind c.loop-text.at c.in_ok-item.item _ _ _ split c.in_ok-item.ensures
    c.loop-text.invariant.room in
    omega (arith, room)

pub loop-text-preserved : goal.loop-text-preserved
loop-text-preserved c =
    let texts = c.args.texts.now in
    let i = c.loop-text.text-index in
    let at = c.loop-text.at in
    let item = c.in_ok-item.item in
    let rest = texts_seen (drop (i + 1) texts) in
    let cands = map as_cand c.loop-text.cands in
    let cands' = map as_cand c.add_cand.new.cands in
    let lt : i < length texts = omega (arith, c.loop-text-test.true) in
    let split = ap texts_seen (drop_more texts i (record { ref_ptr = (0, 0); now = [] }) lt) in
    let first : texts_seen (drop i texts) ≡ item ∷ rest = split ∙ ap (λ t. t ∷ rest) (sym c.in_ok-item.ensures) in
    record {
      gathered =
          ap (λ n. gathered n cands' rest) c.place_behind-behind.ensures
          ∙ sym (gathered-one at cands cands' item rest c.in_ok-add_cand.ensures)
          ∙ ap (gathered at cands) (sym first) ∙ c.loop-text.invariant.gathered;
      valid = c.in_ok-add_cand.ensures.valid c.loop-text.invariant.valid;
      apart =
          (and_parts (lacks 0x2F item) (list_all (lacks 0x2F) rest)
          (ap (list_all (lacks 0x2F)) (sym first) ∙ c.loop-text.invariant.apart)).1;
      room =
          subst (λ n. n + byte_len (flat_map with_slash rest) < 2 ^ 63 + 2) (sym c.place_behind-behind.ensures)
          (room_behind at item _ _ rest split c.in_ok-item.ensures c.loop-text.invariant.room);
    }
