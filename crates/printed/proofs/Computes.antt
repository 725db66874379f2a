-- The definitions that examples compute through, a layer at a time: `unfolding card` opens those of the card, `unfolding answers` all up to
-- the answer of a sample.
use Rattle.leaf.specs.Bytes.{byte, word}
use Rattle.leaf.specs.Checks.{or_fault}
use Rattle.leaf.specs.Answers.{numbered_refusal}
use Rattle.card.specs.Card.{row_at, pairs_at}
use Rattle.card.specs.Ranges.{settings_fault, fault_of, check_settings}
use Rattle.card.specs.Reading.{functions_from, pairs_from, settings_from, answer_by, read_card, card_in}
use Rattle.curve.specs.Curve.{fallen_of, curve_of, row_speed}
use Rattle.signals.specs.MainControl.{main_older, near_of, may_increase, increase_lit}
use Rattle.signals.specs.Stop.{alongside_older, alongside_after, override_older, reminder_older, first_met, reminder_missed, takes_press, second_met, reminded_of}
use Rattle.signals.specs.Windows.{answers_of, window_older, missed_of, time_left}
use Rattle.sides.specs.Crossing.{crossing_older, unprotected_set, protected_set, turns_at, turned_at, icon_of, option_older}
use Rattle.sides.specs.Limit.{limit_set, stepped_final, limit_speed, may_step, removable}
use Rattle.sides.specs.Pairs.{first_read, first_older, is_second, paired_older, paired_goes, any_paired, four_with, four_older, lowest_to_go, all_older}
use Rattle.desk.specs.Beside.{beside_older}
use Rattle.desk.specs.Brake.{stood_after, standstill, brake_age}
use Rattle.desk.specs.Ranges.{beside_inside, desk_inside}
use Rattle.desk.specs.Clock.{desk_older, reminded, main_counts, side_counts, main_missed, side_missed, advanced, begun}
use Rattle.desk.specs.State.{taken_over, crossing_set, limit_now, mode_changed}
use Rattle.buttons.specs.Buttons.{chosen, answered_by, main_answered, side_answered, pressed, free_for, option_used, limit_removed, paired_removed, lowest_removed, reminder_answered, override_armed, stop_increased, limit_stepped, crossing_pressed, limit_pressed, override_pressed, increase_pressed, hide_pressed, window_presses, all_presses, presses_of}
use Rattle.beacons.specs.Beacons.{reads_of, main_opened, side_opened, reading1, reading_row, option_offered, reading3, reading4, zone_met, reading7, stopped, reading8, reading9, reading_single, speed_of_pair, first_kept, reading_first, single_dropped, pair_set, reading_second, reading_paired, reading_limit, reading_of, read_if, beacon_taken}
use Rattle.step.specs.Brake.{lowest, standing_cause, braked, window_lamps, control_lamps, button_lamps, lamps_of}
use Rattle.step.specs.Step.{moved_of, limit_goes, answer_of, arose_of, judged_of, step_of}
use Rattle.step.specs.Speed.{crossing_turned, main_speed, bts_limit, main_limit, alongside_limit, crossing_limit, limit_limit, paired_limit, lower, supervised_of}
use Rattle.session.specs.Session.{judge_card, open_session, card_inside, inside_of, refused_by, ran_of, sample_of}
use Rattle.session.specs.Types.{type_speed, type_allowed}

unfoldable pub card : Unit {0}
unfolding byte word or_fault row_at pairs_at settings_fault fault_of check_settings functions_from pairs_from settings_from answer_by read_card card_in
card = tt

unfoldable pub signal_parts : Unit {0}
unfolding main_older near_of may_increase increase_lit alongside_older alongside_after override_older reminder_older first_met reminder_missed takes_press second_met reminded_of answers_of window_older missed_of time_left
signal_parts = tt

unfoldable pub side_parts : Unit {0}
unfolding fallen_of curve_of row_speed crossing_older unprotected_set protected_set turns_at turned_at icon_of option_older limit_set stepped_final limit_speed may_step removable first_read first_older is_second paired_older paired_goes any_paired four_with four_older lowest_to_go all_older
side_parts = tt

unfoldable pub desk : Unit {0}
unfolding stood_after standstill brake_age beside_older desk_older reminded main_counts side_counts main_missed side_missed advanced begun taken_over crossing_set limit_now mode_changed
desk = tt

unfoldable pub presses : Unit {0}
unfolding chosen answered_by main_answered side_answered pressed free_for option_used limit_removed paired_removed lowest_removed reminder_answered override_armed stop_increased limit_stepped crossing_pressed limit_pressed override_pressed increase_pressed hide_pressed window_presses all_presses presses_of
presses = tt

unfoldable pub beacons : Unit {0}
unfolding reads_of main_opened side_opened reading1 reading_row option_offered reading3 reading4 zone_met reading7 stopped reading8 reading9 reading_single speed_of_pair first_kept reading_first single_dropped pair_set reading_second reading_paired reading_limit reading_of read_if beacon_taken
beacons = tt

unfoldable pub sample : Unit {0}
unfolding lowest standing_cause braked window_lamps control_lamps button_lamps lamps_of moved_of limit_goes answer_of arose_of judged_of step_of crossing_turned main_speed bts_limit main_limit alongside_limit crossing_limit limit_limit paired_limit lower supervised_of
sample = tt

unfoldable pub session : Unit {0}
unfolding numbered_refusal beside_inside desk_inside judge_card open_session card_inside inside_of refused_by ran_of sample_of type_speed type_allowed
session = tt

unfoldable pub answers : Unit {0}
unfolding card signal_parts side_parts desk presses beacons sample session
answers = tt
