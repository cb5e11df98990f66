use mathlib.Core.Path.{refl}
use Rattle.zaehlung.specs.Walk.{day_after, up, down, past, first, among, add, sub, next, W, between}
use Rattle.zaehlung.specs.Blocks.{start, at}
use Rattle.datum.specs.Calendar.{is_leap, days_in_month, year_len, is_date, index_of, date_in, date_of}
use Rattle.datum.specs.MonthShift.{in_month, on_month, add_months, subtract_months}
use Rattle.datum.specs.Monate.{months_later, months_earlier, M}
use Rattle.datum.specs.Floor.{floor_div, floor_mod}
use Rattle.werktag.specs.Easter.{easter_sunday, easter_index}
use Rattle.zaehlung.specs.Lists.{any}
use Rattle.werktag.specs.Werktag.{is_fixed, is_buss_und_bettag, is_easter_feast, is_werktag}
use Rattle.berlin.specs.Berlin.{is_before, in_limits, read_instant, last_sunday, year_at, offset_at, berlin_at}
use Rattle.berlin.specs.Berlin.{berlin_midnight}
use Rattle.fristen.specs.Fristen.{instant_later, contrl_seconds, in_window, toleranz_in, formatumstellung_toleranz}
use Rattle.fristen.specs.Fristen.{contrl_due_at, nth_werktag_at}
use Rattle.fristen.specs.FristShape.{same_day_at, due_at_of}
use Rattle.vorlauf.specs.Verdict.{closes, reaches, not_after, check_of}
use Rattle.vorlauf.specs.Margin.{margin_of, judgement_of}
use Rattle.vorlauf.specs.Span.{span_of}
use Rattle.zahlen.specs.TwosComplement.{bits_in, signed_in}
use Rattle.antwortsatz.specs.Answers.{of_kind, at_instant, judged, spanned}
use Rattle.antwortsatz.specs.Bytes.{bytes_of}
use Rattle.fragesatz.specs.Record.{question_of}
use Rattle.fragesatz.specs.File.{is_file, records}
use Rattle.antworten_frist.specs.Frist.{contrl_due_at_answer, frist_due_at_answer}
use Rattle.antworten_vorlauf.specs.Vorlauf.{vorlauf_check_answer, vorlauf_span_answer}
use Rattle.antworten_frage.specs.Frage.{clock_of_seconds, question_answer}
use Rattle.antworten_frage.specs.Fragen.{answers_to, questions_reply}
use Rattle.antworten_frage.proofs.theorems.outside_values.Goals as goal

pub returns : goal.returns
unfolding start at is_leap days_in_month year_len is_date index_of date_in date_of floor_div floor_mod
    in_month on_month add_months subtract_months months_later months_earlier M
    day_after up down past first among add sub next W between
    easter_sunday easter_index any is_fixed is_buss_und_bettag is_easter_feast is_werktag
    is_before in_limits read_instant last_sunday year_at offset_at berlin_at berlin_midnight
    instant_later contrl_seconds in_window toleranz_in formatumstellung_toleranz contrl_due_at nth_werktag_at
    same_day_at due_at_of closes reaches not_after check_of margin_of judgement_of span_of bits_in signed_in
    of_kind at_instant judged spanned bytes_of question_of is_file records
    contrl_due_at_answer frist_due_at_answer vorlauf_check_answer vorlauf_span_answer
    clock_of_seconds question_answer answers_to questions_reply
returns c = record { file = refl }
