use Rattle.skkserv_client.proofs.FoundTold.{found_told}
use Rattle.skkserv_client.proofs.laws.found_candidates_are_told.Goals as goal

pub returns : goal.returns
returns c =
    found_told c.items_are_read_again.ensures.read c.items_are_read_again.ensures.characters
    c.bodies_have_one_list_of_texts.ensures.texts
