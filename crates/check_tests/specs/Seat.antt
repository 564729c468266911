-- The three sites as code has them.
--     seat          the site of theory_sharing that one stands for
--     number_of     its number
--     seated        11: "site not 1, 2 or 3"
use Rattle.std.specs.Prelude.{cond, ℕ, eqb, Result, Ok, Err}
use Rattle.theory_sharing.specs.Sites.{Site as TheSite, s1, s2, s3}
use Rattle.check_refusal.specs.declared.Refusal.{Refusal}
use Rattle.check_refusal.specs.declared.Refusal.TheVariants.{Site as NoSite}
use Rattle.check_tests.specs.declared.Site.{Site}
use Rattle.check_tests.specs.declared.Site.TheVariants.{One, Two, Three}

abbrev pub seat : Site → TheSite
seat One = s1
seat Two = s2
seat Three = s3

abbrev pub number_of : Site → ℕ
number_of One = 1
number_of Two = 2
number_of Three = 3

abbrev pub seated : ℕ → Result Site Refusal
seated n = cond (eqb n 1) (Ok One) (cond (eqb n 2) (Ok Two) (cond (eqb n 3) (Ok Three) (Err NoSite)))
