-- What four bytes read, le4 writes back.
use Rattle.std.proofs.Common.{◌∙◌, ap, rules}
use Rattle.zahlen.specs.LittleEndian.{le4}
use Rattle.vektoren_portfolio.proofs.Read.{word_read}
use Rattle.vektoren_portfolio.proofs.number_of.Goals as goal

pub returns : goal.returns
returns c = ap le4 c.u32_at.ensures ∙ word_read c.args.bytes.now (search rules) (λ k _. c.fits-bytes k)
