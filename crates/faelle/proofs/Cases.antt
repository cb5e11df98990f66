-- The cases A to L, computed.
-- Assumes nothing.
use mathlib.Core.Path.{refl}
use Rattle.zaehlung.specs.Walk.{day_after, up, down, past, first, among, add, sub, next, W, between}
use Rattle.zaehlung.specs.Blocks.{start, at}
use Rattle.datum.specs.Calendar.{is_leap, days_in_month, year_len, is_date, index_of, date_in, date_of}
use Rattle.datum.specs.Floor.{floor_div, floor_mod}
use Rattle.datum.specs.MonthShift.{in_month, on_month, add_months, subtract_months}
use Rattle.datum.specs.Monate.{months_later, months_earlier, M}
use Rattle.werktag.specs.Easter.{easter_sunday, easter_index}
use Rattle.zaehlung.specs.Lists.{any}
use Rattle.werktag.specs.Werktag.{is_fixed, is_buss_und_bettag, is_easter_feast, is_werktag}
use Rattle.werktag.specs.Reason.{place_from, reason}
use Rattle.berlin.specs.Berlin.{is_before, in_limits, read_instant, read_clock, last_sunday, year_at, offset_at}
use Rattle.berlin.specs.Berlin.{berlin_at}
use Rattle.berlin.specs.Berlin.{berlin_midnight, end_of_day_berlin, tagesbeginn_utc}
use Rattle.fristen.specs.Fristen.{instant_later, contrl_seconds, in_window, toleranz_in, formatumstellung_toleranz}
use Rattle.fristen.specs.Fristen.{contrl_due_at, nth_werktag_at}
use Rattle.fristen.specs.FristShape.{same_day_at, due_at_of}
use Rattle.vorlauf.specs.Verdict.{closes, reaches, fruehester_termin_nach_tag_vor_dem_letzten_werktag, not_after}
use Rattle.vorlauf.specs.Verdict.{check_of}
use Rattle.vorlauf.specs.Margin.{margin_of, judgement_of}
use Rattle.vorlauf.specs.Span.{span_of}
use Rattle.zahlen.specs.TwosComplement.{bits_in}
use Rattle.antwortsatz.specs.Answers.{of_kind, dated, at_instant, judged, spanned}
use Rattle.antworten.specs.Kalender.{is_werktag_answer, add_werktage_answer}
use Rattle.antworten.specs.Uhrzeit.{berlin_at_answer, tagesbeginn_utc_answer}
use Rattle.antworten_frist.specs.Frist.{contrl_due_at_answer, frist_due_at_answer}
use Rattle.antworten_vorlauf.specs.Vorlauf.{vorlauf_check_answer, vorlauf_span_answer}
use Rattle.faelle.specs.Cases.{CasesAToL}

pub cases : CasesAToL
unfolding start at is_leap days_in_month year_len is_date index_of date_in date_of floor_div floor_mod
    in_month on_month add_months subtract_months months_later months_earlier M
    day_after up down past first among add sub next W between
    easter_sunday easter_index any is_fixed is_buss_und_bettag is_easter_feast is_werktag place_from reason
    is_before in_limits read_instant read_clock last_sunday year_at offset_at berlin_at
    berlin_midnight end_of_day_berlin tagesbeginn_utc
    instant_later contrl_seconds in_window toleranz_in formatumstellung_toleranz contrl_due_at nth_werktag_at
    same_day_at due_at_of closes reaches fruehester_termin_nach_tag_vor_dem_letzten_werktag not_after
    check_of margin_of judgement_of span_of bits_in of_kind dated at_instant judged spanned
    is_werktag_answer add_werktage_answer berlin_at_answer tagesbeginn_utc_answer
    contrl_due_at_answer frist_due_at_answer vorlauf_check_answer vorlauf_span_answer
cases = refl
