use Rattle.typist_line.proofs.Fronts.{converses-first}
use Rattle.typist_line.proofs.KeyTexts.{one-line, one-opening}
use Rattle.typist_line.proofs.laws.conversation_of_a_front.Goals as goal

pub returns : goal.returns
returns c =
    converses-first
    (one-line c.one_list_of_keys.ensures c.one_fault_of_key_text.ensures.no_keys
    c.one_fault_of_key_text.ensures.one_place)
    (one-opening c.one_typist_and_book.ensures)
