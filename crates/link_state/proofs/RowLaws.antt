-- Rows of five numbers are combinations; the combinations of the rows so far are good and stand in the first places. Assumes nothing.
use Rattle.std.proofs.Common.{◌≡◌, ℕ, zero, suc, ◌+◌, ◌-◌, ◌*◌, ◌/◌, ◌%◌, ◌<◌, ◌≤◌, ◌≢◌, true, false, ◌&&◌, ◌∷◌, ◌++◌, ◌∙◌}
use Rattle.std.proofs.Common.{List, [], map, length, length-take-le, take, take-append-drop, drop, get_or, set, replicate, Some, None, refl, sym, ap, append_assoc, arith}
use Rattle.std.proofs.lemmas.List.{set_at, take_all, take_at, map_more, map-append, length-map}
use Rattle.std.proofs.lemmas.Bool.Decides.{nat_tests}
use borrow.Author.Tests.{eq-eqb, le-leb}
use Rattle.std.specs.Simd.{first_chunks}
use Rattle.definitions.specs.Outcome.{refused, ok, unless}
use Rattle.links.specs.declared.Combination.{Combination}
use Rattle.links.specs.Sets.{combination, combination_good, unlike, all_good, set_good}
use Rattle.links.specs.Calls.{in_fives}
use Rattle.link_state.specs.Answers.{five, set_of}

abbrev pub none : Combination
none = combination 0 0 0 0 0

-- ---- rows

five_more : (k : ℕ) → 5 * suc k ≡ suc (suc (suc (suc (suc (5 * k)))))
five_more k = omega arith

pub in_fives_rows : (n : ℕ) (ns : List ℕ) → 5 * n ≡ length ns → in_fives ns ≡ map five (first_chunks 5 n ns)
in_fives_rows zero [] h = refl
in_fives_rows zero (a ∷ ns) h = absurd (omega arith)
in_fives_rows (suc n) (i ∷ t ∷ a ∷ b ∷ c ∷ ns) h = ap (λ cs. combination i t a b c ∷ cs) (in_fives_rows n ns (omega (arith, five_more n)))
in_fives_rows (suc n) [] h = absurd (omega (arith, five_more n))
in_fives_rows (suc n) (i ∷ []) h = absurd (omega (arith, five_more n))
in_fives_rows (suc n) (i ∷ t ∷ []) h = absurd (omega (arith, five_more n))
in_fives_rows (suc n) (i ∷ t ∷ a ∷ []) h = absurd (omega (arith, five_more n))
in_fives_rows (suc n) (i ∷ t ∷ a ∷ b ∷ []) h = absurd (omega (arith, five_more n))

-- ---- all good

apart-append : (c : Combination) (ds es : List Combination) → unlike c (ds ++ es) ≡ (unlike c ds && unlike c es)
apart-append c [] es = refl
apart-append c (d ∷ ds) es = let i = apart-append c ds es in grind (arith, nat_tests, i)

-- with one more behind those that are good
pub all_good-snoc : (cs : List Combination) (c : Combination) → all_good cs ≡ true → all_good (cs ++ c ∷ []) ≡ (combination_good c && unlike c cs)
all_good-snoc [] c h = refl
all_good-snoc (d ∷ cs) c h =
    let i : all_good cs ≡ true → all_good (cs ++ c ∷ []) ≡ (combination_good c && unlike c cs) = all_good-snoc cs c in
    let a = apart-append d cs (c ∷ []) in
    grind (arith, nat_tests, h, i, a)

pub all_good-front : (cs ds : List Combination) → all_good (cs ++ ds) ≡ true → all_good cs ≡ true
all_good-front [] ds h = refl
all_good-front (c ∷ cs) ds h =
    let i : all_good (cs ++ ds) ≡ true → all_good cs ≡ true = all_good-front cs ds in
    let a = apart-append c cs ds in
    grind (arith, nat_tests, h, i, a)

-- ---- places

-- the places after the first n rows
abbrev pub stored : ℕ → List (List ℕ) → List Combination
stored n rows = map five (take n rows) ++ replicate (11 - n) none

-- row n makes combination c, if it makes a good one
module _ (rows : List (List ℕ)) (few : length rows ≤ 11) (n : ℕ) (h : n < length rows) (ps : List Combination) (held : ps ≡ stored n rows) where
  abbrev row : Combination
  row = five (get_or rows n [])

  more : map five (take (n + 1) rows) ≡ map five (take n rows) ++ row ∷ []
  more = map_more five rows n [] h

  size : length (map five (take n rows)) ≡ n
  size = length-map (take n rows) five ∙ length-take-le n rows (omega arith)

  pub stored_next : (c : Combination) → ok c ≡ unless 11 (combination_good row) (ok row) → set ps n c ≡ stored (n + 1) rows
  stored_next c e =
      let ds : List Combination = map five (take n rows) in
      let os : List Combination = replicate (11 - (n + 1)) none in
      let f : c ≡ row = grind (arith, nat_tests) in
      ap (λ ps. set ps n c) held
      ∙ ap (λ m. set (ds ++ replicate m none) n c) {x = 11 - n} {y = suc (11 - (n + 1))} (omega arith)
      ∙ set_at ds none os c n size
      ∙ sym (append_assoc ds (c ∷ []) os)
      ∙ ap (λ ds. ds ++ os) (ap (λ d. ds ++ d ∷ []) f ∙ sym more)

  module _ (good : all_good (map five (take n rows)) ≡ true) where
    turn : all_good (map five (take (n + 1) rows)) ≡ (combination_good row && unlike row (take n ps))
    turn =
        let ds : List Combination = map five (take n rows) in
        let t = take_at ds (replicate (11 - n) none) n size in
        ap all_good more ∙ all_good-snoc ds row good ∙ ap (λ cs. combination_good row && unlike row cs) (sym (ap (take n) held ∙ t))

    pub not_good : refused 11 ≡ unless 11 (combination_good row) (ok row) → all_good (map five (take (n + 1) rows)) ≡ false
    not_good e = let t = turn in grind (arith, nat_tests)

    module _ (c : Combination) (e : ok c ≡ unless 11 (combination_good row) (ok row)) where
      pub not_apart : false ≡ unlike c (take n ps) → all_good (map five (take (n + 1) rows)) ≡ false
      not_apart f = let t = turn in grind (arith, nat_tests)

      pub good_next : true ≡ unlike c (take n ps) → all_good (map five (take (n + 1) rows)) ≡ true
      good_next f = let t = turn in grind (arith, nat_tests)

-- ---- what numbers write

module _ (ns : List ℕ) (rows : List (List ℕ)) (front : rows ≡ first_chunks 5 (length ns / 5) ns) (size : length rows ≡ length ns / 5) where
  pub not_whole : (length ns % 5 ≢ 0) → None ≡ set_of ns
  not_whole h = grind (arith, nat_tests)

  module _ (whole : length ns % 5 ≡ 0) where
    combinations : in_fives ns ≡ map five rows
    combinations = in_fives_rows (length ns / 5) ns (omega arith) ∙ ap (map five) (sym front)

    long : length (in_fives ns) ≡ length rows
    long = ap length combinations ∙ length-map rows five

    pub too_few : length rows ≡ 0 → None ≡ set_of ns
    unfolding set_good
    too_few h = grind (arith, nat_tests, long)

    pub too_many : 11 < length rows → None ≡ set_of ns
    unfolding set_good
    too_many h = grind (arith, nat_tests, long)

    -- the combinations of the first n rows are not good
    pub wrong : (n : ℕ) → all_good (map five (take n rows)) ≡ false → None ≡ set_of ns
    unfolding set_good
    wrong n h =
        let e : in_fives ns ≡ map five (take n rows) ++ map five (drop n rows) =
        combinations ∙ ap (map five) (sym (take-append-drop n rows)) ∙ map-append five (take n rows) (drop n rows) in
        let f = all_good-front (map five (take n rows)) (map five (drop n rows)) in
        grind (arith, nat_tests, e, f)

    pub right : (0 < length rows) → length rows ≤ 11 → all_good (map five (take (length rows) rows)) ≡ true
        → Some (record { places = stored (length rows) rows; count = length rows }) ≡ set_of ns
    unfolding set_good
    right some few h =
        let e : map five (take (length rows) rows) ≡ in_fives ns = ap (map five) (take_all (length rows) rows (omega arith)) ∙ sym combinations in
        let g : all_good (in_fives ns) ≡ true = ap all_good (sym e) ∙ h in
        let n : ℕ = length (in_fives ns) in
        rw (e, ← long, eq-eqb (length ns % 5) 0 whole, le-leb 1 n (omega (arith, long)), le-leb n 11 (omega (arith, long)), g)
