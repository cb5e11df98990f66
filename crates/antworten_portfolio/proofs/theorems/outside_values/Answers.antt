use mathlib.Core.Path.{refl}
use Rattle.zaehlung.specs.Walk.{among, between}
use Rattle.zaehlung.specs.Blocks.{start, at}
use Rattle.zaehlung.specs.Lists.{any}
use Rattle.datum.specs.Calendar.{is_leap, days_in_month, year_len, date_in, date_of}
use Rattle.werktag.specs.Easter.{easter_sunday, easter_index}
use Rattle.werktag.specs.Werktag.{is_fixed, is_buss_und_bettag, is_easter_feast, is_werktag}
use Rattle.zahlen.specs.TwosComplement.{bits_in}
use Rattle.antwortsatz.specs.Answers.{counted}
use Rattle.antwortsatz.specs.Bytes.{bytes_of, reply}
use Rattle.portfolio.specs.Portfolio.{is_portfolio, in_range, pair_count, pairwise}
use Rattle.portfolio.specs.Runs.{beginning, opens, openings, runs}
use Rattle.antworten_portfolio.specs.Portfolio.{portfolio_answer, counts_left, portfolio_reply}
use Rattle.antworten_portfolio.proofs.theorems.outside_values.Goals as goal

pub returns-clause-answered : goal.returns-clause-answered
unfolding start at is_leap days_in_month year_len date_in date_of among between easter_sunday easter_index any is_fixed
    is_buss_und_bettag is_easter_feast is_werktag bits_in counted bytes_of reply is_portfolio in_range pair_count
    pairwise beginning opens openings runs portfolio_answer counts_left portfolio_reply
returns-clause-answered c = refl

pub returns-clause-refused_10 : goal.returns-clause-refused_10
unfolding bytes_of reply is_portfolio portfolio_answer counts_left portfolio_reply
returns-clause-refused_10 c = refl

pub returns-clause-refused_1 : goal.returns-clause-refused_1
unfolding reply counts_left portfolio_reply
returns-clause-refused_1 c = refl
