-- "Buttons: 0 announcement, 1 preannouncement, 2 caution, 3 conditional clear, 4 before-stop, 5 crossing, 6 limit, 7 override, 8 increase,
-- 9 hide, 10 rearm." A button is its weight in the mask of those pressed, or lit: button k is bit k, of weight 2 to the k.
use Rattle.std.specs.Prelude.{ℕ}

abbrev pub announcement_button : ℕ
announcement_button = 1

abbrev pub preannouncement_button : ℕ
preannouncement_button = 2

abbrev pub caution_button : ℕ
caution_button = 4

abbrev pub conditional_clear_button : ℕ
conditional_clear_button = 8

abbrev pub before_stop_button : ℕ
before_stop_button = 16

abbrev pub crossing_button : ℕ
crossing_button = 32

abbrev pub limit_button : ℕ
limit_button = 64

abbrev pub override_button : ℕ
override_button = 128

abbrev pub increase_button : ℕ
increase_button = 256

abbrev pub hide_button : ℕ
hide_button = 512

abbrev pub rearm_button : ℕ
rearm_button = 1024
