-- 01: "Sites and parts are 1, 2, 3, counted in a ring, so after 3 comes 1."
--     Site, s1 s2 s3    the three sites; also the three parts
--     next, prev        s + 1 and s + 2 in the ring
--     is                whether two sites are one
--     sites_before      s - 1: how many sites come before s
--     if_own            a list where two sites are one, else nothing
--     Trio, of          one thing for each site
use Rattle.std.specs.Prelude.{Bool, true, false, cond, List, [], ℕ}

pub data Site : Type 0 where
  s1 s2 s3 : Site

-- site s + 1
abbrev pub next : Site → Site
next s1 = s2
next s2 = s3
next s3 = s1

-- site s + 2, which is the one before s
abbrev pub prev : Site → Site
prev s1 = s3
prev s2 = s1
prev s3 = s2

-- 01: "Site s's part starts at 2W(s-1)": the s - 1 of that, and where a site's row stands in a table
abbrev pub sites_before : Site → ℕ
sites_before s1 = 0
sites_before s2 = 1
sites_before s3 = 2

unfoldable pub is : Site → Site → Bool
is s1 s1 = true
is s1 s2 = false
is s1 s3 = false
is s2 s1 = false
is s2 s2 = true
is s2 s3 = false
is s3 s1 = false
is s3 s2 = false
is s3 s3 = true

unfoldable pub if_own : Site → Site → List ℕ → List ℕ
if_own s t l = cond (is s t) l []

-- A record and no function of the site: what it holds is worked out once.
pub record Trio (A : Type 0) : Type 0 where
  pub at1 : A
  pub at2 : A
  pub at3 : A

abbrev pub of : {A : Type 0} → Trio A → Site → A
of t s1 = t.at1
of t s2 = t.at2
of t s3 = t.at3
