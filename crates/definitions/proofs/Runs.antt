-- What holds at the start, and is kept by each call, holds after any list of calls. By induction over the calls. Assumes nothing.
use mathlib.Core.Path.{◌≡◌, refl, ap, ◌∙◌}
use mathlib.Core.List.{List, [], ◌∷◌}
use Rattle.definitions.specs.Runs.{Program, Log, after}

-- `holds` is of the calls, and of the state and the log after them
pub after-keeps : {S C R : Type 0} (start : S) (step : Program S C R) (holds : List C → S → Log C R → Type 0)
    → holds [] start []
    → ((cs : List C) (s : S) (es : Log C R) (c : C) → holds cs s es → holds (c ∷ cs) (step s c).1 ((c, (step s c).0) ∷ es))
    → (cs : List C) → holds cs (after start step cs).state (after start step cs).log
after-keeps start step holds h k [] = h
after-keeps start step holds h k (c ∷ cs) = k cs _ _ c (after-keeps start step holds h k cs)

-- two programs that answer alike wherever they have answered alike so far have the same log
pub same-log : {S T C R : Type 0} (start : S) (step : Program S C R) (start' : T) (step' : Program T C R)
    → ((cs : List C) (c : C) → (after start step cs).log ≡ (after start' step' cs).log
    → (step (after start step cs).state c).0 ≡ (step' (after start' step' cs).state c).0)
    → (cs : List C) → (after start step cs).log ≡ (after start' step' cs).log
same-log start step start' step' k [] = refl
same-log start step start' step' k (c ∷ cs) =
    let e = same-log start step start' step' k cs in
    ap (λ r. (c, r) ∷ (after start step cs).log) (k cs c e) ∙ ap (λ es. (c, (step' (after start' step' cs).state c).0) ∷ es) e
