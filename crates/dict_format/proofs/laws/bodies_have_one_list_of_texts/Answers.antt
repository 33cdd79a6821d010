use Rattle.dict_format.proofs.LineTexts.{body_of_texts, texts_of_body}
use Rattle.dict_format.proofs.laws.bodies_have_one_list_of_texts.Goals as goal

pub returns : goal.returns
returns c = record { body = body_of_texts; texts = texts_of_body }
