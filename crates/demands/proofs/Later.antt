-- The later functions, however many there are: settings with those of another card; samples at which none both differs and speaks; desks
-- on which none that differs has been looked at.
use Prim.Native.Nat.{ℕ}
use native.Mathlib.Omega.{arith}
use mathlib.Core.Bool.{Bool, true, false, ◌&&◌, ◌||◌}
use mathlib.Core.Path.{◌≡◌, refl}
use mathlib.Core.List.{List, [], ◌∷◌}
use Rattle.card.specs.declared.Card.{Card}
use Rattle.card.specs.declared.Settings.{Settings}
use Rattle.desk.specs.declared.state.Desk.{Desk}
use Rattle.desk.specs.State.{fresh_desk}
use Rattle.session.specs.declared.Sample.{Sample}
use Rattle.session.specs.declared.Session.{Session}
use Rattle.session.specs.Session.{ran_of}
use Rattle.demands.specs.Speaks.{Later, some_speaks}

-- settings with the later functions, and their settings, of others
abbrev pub later_in : Settings → Settings → Settings
later_in s t =
    record {
      vmax = s.vmax;
      tick = s.tick;
      bts = s.bts;
      conditional_clear = s.conditional_clear;
      announcement = s.announcement;
      preannouncement = s.preannouncement;
      caution = s.caution;
      before_stop = s.before_stop;
      crossing = s.crossing;
      limit = s.limit;
      start = s.start;
      functions = t.functions;
      x = t.x;
      y = t.y;
      pairs = t.pairs;
    }

-- a card with the version and the later functions of another
abbrev pub later : Card → Card → Card
later c t = record { version = t.version; settings = later_in c.settings t.settings }

-- ---- a sample at which no function both differs and speaks

abbrev pub Silent : Later → Session → Card → Sample → Type 0
Silent f s t x = (f.differs s.card t && f.speaks s x) ≡ false

abbrev pub AllSilent : List Later → Session → Card → Sample → Type 0
AllSilent [] s t x = Unit
AllSilent (f ∷ rest) s t x = Silent f s t x × AllSilent rest s t x

pub or_false : (a b : Bool) → (a || b) ≡ false → (a ≡ false) × (b ≡ false)
or_false true b h = absurd (let z : ◌≡◌ {A = ℕ} 0 1 = cc in omega arith)
or_false false b h = (refl, h)

pub all_silent : (fs : List Later) (s : Session) (t : Card) (x : Sample) → some_speaks fs s t x ≡ false → AllSilent fs s t x
all_silent [] s t x h = tt
all_silent (f ∷ rest) s t x h =
    let p = or_false (f.differs s.card t && f.speaks s x) (some_speaks rest s t x) h in
    (p.0, all_silent rest s t x p.1)

-- ---- a desk on which no function that differs has been looked at

-- a function, with the desks on which its settings have not been looked at: a fresh one is, and is so until the function speaks
pub record Entry : Type 0 where
  pub function : Later
  pub quiet : Desk → Bool
  pub fresh : quiet fresh_desk ≡ true
  pub stays : (s : Session) (t : Card) (x : Sample) → function.differs s.card t ≡ true → quiet s.desk ≡ true
      → function.speaks s x ≡ false → quiet (ran_of s x).session.desk ≡ true

-- one that is looked at only where it speaks, and leaves nothing that is looked at later
abbrev pub momentary : Later → Entry
momentary f = record { function = f; quiet = λ d. true; fresh = refl; stays = λ s t x o q h. refl }

abbrev pub functions_in : List Entry → List Later
functions_in [] = []
functions_in (e ∷ rest) = e.function ∷ functions_in rest

abbrev pub AllQuiet : List Entry → Card → Card → Desk → Type 0
AllQuiet [] c t d = Unit
AllQuiet (e ∷ rest) c t d = (e.function.differs c t ≡ true → e.quiet d ≡ true) × AllQuiet rest c t d

pub all_fresh : (es : List Entry) (c t : Card) → AllQuiet es c t fresh_desk
all_fresh [] c t = tt
all_fresh (e ∷ rest) c t = (λ o. e.fresh, all_fresh rest c t)

pub all_stay : (es : List Entry) (s : Session) (t : Card) (x : Sample) → AllQuiet es s.card t s.desk → AllSilent (functions_in es) s t x
    → AllQuiet es s.card t (ran_of s x).session.desk
all_stay [] s t x quiet silent = tt
all_stay (e ∷ rest) s t x quiet silent = (λ o. e.stays s t x o (quiet.0 o) (rw o at silent.0), all_stay rest s t x quiet.1 silent.1)
