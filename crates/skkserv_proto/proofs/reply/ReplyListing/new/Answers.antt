use Rattle.std.proofs.Common.{◌∙◌, ap, encode_utf8_all}
use Rattle.skkserv_proto.proofs.Listing.{listed-begin}
use Rattle.skkserv_proto.proofs.reply.ReplyListing.new.Goals as goal

pub returns : goal.returns
returns c = ap encode_utf8_all c.in_ok-text.ensures ∙ listed-begin
