use Rattle.std.proofs.Common.{◌≡◌, ◌<◌, ◌+◌, ◌^◌, true, [], drop, map}
use Rattle.std.specs.List.{flat_map, list_all}
use Rattle.skk_text.specs.Text.{byte_len}
use Rattle.skk_calls.specs.Canonical.{with_slash}
use Rattle.skk_calls.specs.Rows.{is_cand}
use Rattle.word_sets.specs.Strings.{as_cand}
use Rattle.exact_readers.specs.Lacking.{lacks}
use Rattle.dict_format.specs.Views.{texts_seen}
use Rattle.skkserv_client.specs.Gathering.{gathered}
use Rattle.skkserv_client.proofs.gathering.cands_of.Given as goal

-- what the candidates so far come to with the texts that are left is what all texts come to
abbrev pub invariant-loop-text : goal.invariant-loop-text
invariant-loop-text l = record {
  gathered :
      gathered l.at (map as_cand l.cands) (texts_seen (drop l.text-index l.texts))
      ≡ gathered 2 [] (texts_seen l.texts);
  valid : list_all is_cand (map as_cand l.cands) ≡ true;
  apart : list_all (lacks 0x2F) (texts_seen (drop l.text-index l.texts)) ≡ true;
  room : l.at + byte_len (flat_map with_slash (texts_seen (drop l.text-index l.texts))) < 2 ^ 63 + 2;
}
