use Rattle.std.proofs.Common.{◌∙◌, ◌++◌, ℕ, List, map, ap}
use Rattle.std.specs.List.{flat_map}
use Rattle.skk_calls.specs.declared.book_list.TypistList.{TypistList}
use Rattle.skk_calls.specs.States.{State}
use Rattle.skk_journal.specs.Records.{framed}
use Rattle.learn_index.specs.Kept.{numbered}
use Rattle.learned_store.specs.Compacted.{compacted}
use Rattle.learned_store.specs.Compacting.{book_records, list_record}
use Rattle.learned_store.specs.Payloads.{payload_of}
use Rattle.learned_store.proofs.BookRecords.{state_records}
use Rattle.learned_store.proofs.compacting.live_records.Goals as goal

pub returns : goal.returns
returns c =
    let books = c.books.result.now in
    let lists = c.lists.result.now in
    let state = c.args.index.now.state in
    let of_books = flat_map book_records (map numbered books) in
    c.of.ensures ∙ c.in_ok-push_lists.ensures
    ∙ ap (λ (l : List ℕ). l ++ flat_map list_record lists)
    (c.in_ok-push_books.ensures ∙ ap (λ (l : List ℕ). l ++ of_books) c.in_ok-records.ensures.items)
    ∙ ap (λ (l : List TypistList). of_books ++ flat_map list_record l) c.lists.ensures
    ∙ state_records books state.lists
    ∙ ap (λ (s : State). framed (map payload_of (compacted s))) c.books.ensures.state
