-- What a stored portfolio comes to.
--   bytes_of_list xs                = the numbers of the list xs as they are stored, 4 bytes each
--   bytes_of_portfolio xs ys n cs e = a portfolio behind its head: its days, the number, the counts, the answer
--   LeavesAll xs ys zs m n cs e     = for the days xs and ys, a third list that held zs and a place for the answer that
--                                     held m, the call returns n, and leaves the counts cs and the answer e
--   IsCounted xs ys n cs e          = so it does where each byte of the list and of the place is 170 before the call
--   ReplaysPortfolio old new xs ys cs e r = with the counts cs and the answer e that are expected the portfolio comes
--                                     to r: the call leaves them and returns the portfolio's number, or it does not, or
--                                     the input has ended within the portfolio. The bytes to come, which were old and
--                                     are new, lose it
--   IsPortfolioHead h xs ys cs e    = the 16 bytes h are the head of a portfolio: the lengths of these lists
--   IsTooLongHead h                 = the head is that of a portfolio that is longer than any here
--   ReplaysNextPortfolio old new o  = the portfolio with which the bytes to come begin comes to o: there is none; the
--                                     call leaves what is expected; it does not; the input has ended within the
--                                     portfolio, or that is too long
use Rattle.std.specs.Prelude.{◌≡◌, ◌⊎◌, ℕ, ◌<◌, List, ◌∷◌, ◌++◌, length, replicate, Option, Some, None, flat_map}
use Rattle.std.specs.Io.KnownBytes.{Consumes, IsAtEnd}
use Rattle.werktag.specs.declared.HolidayCalendar.TheVariants.{BdewMaKo}
use Rattle.werktag.specs.Werktag.{is_werktag}
use Rattle.zahlen.specs.LittleEndian.{le4}
use Rattle.zahlen.specs.Places.{u32_at}
use Rattle.antworten_portfolio.specs.Portfolio.{portfolio_reply}
use Rattle.wiedergabe.specs.declared.Replayed.{Replayed}
use Rattle.wiedergabe.specs.declared.Replayed.TheVariants.{Equal, Different, Unreadable}

abbrev pub bytes_of_list : List ℕ → List ℕ
bytes_of_list xs = flat_map le4 xs

abbrev pub bytes_of_portfolio : List ℕ → List ℕ → ℕ → List ℕ → List ℕ → List ℕ
bytes_of_portfolio xs ys n cs e = bytes_of_list xs ++ (bytes_of_list ys ++ n ∷ (bytes_of_list cs ++ e))

abbrev pub LeavesAll : List ℕ → List ℕ → List ℕ → List ℕ → ℕ → List ℕ → List ℕ → Type 0
LeavesAll xs ys zs m n cs e = portfolio_reply (is_werktag BdewMaKo) xs ys zs m ≡ (n, cs, e)

abbrev pub IsCounted : List ℕ → List ℕ → ℕ → List ℕ → List ℕ → Type 0
IsCounted xs ys n cs e = LeavesAll xs ys (replicate (length cs) 2863311530) (replicate (length e) 170) n cs e

abbrev pub ReplaysPortfolio :
    Option (List ℕ) → Option (List ℕ) → List ℕ → List ℕ → List ℕ → List ℕ → Replayed → Type 0
ReplaysPortfolio old new xs ys cs e Equal =
    (n : ℕ) × Consumes old new (bytes_of_portfolio xs ys n cs e) × IsCounted xs ys n cs e
ReplaysPortfolio old new xs ys cs e Different =
    (n : ℕ) × Consumes old new (bytes_of_portfolio xs ys n cs e) × ¬ (IsCounted xs ys n cs e)
ReplaysPortfolio old new xs ys cs e Unreadable = IsAtEnd new

abbrev pub IsPortfolioHead : List ℕ → List ℕ → List ℕ → List ℕ → List ℕ → Type 0
IsPortfolioHead h xs ys cs e =
    (length h ≡ 16) × (u32_at h 0 ≡ length xs) × (u32_at h 4 ≡ length ys) × (u32_at h 8 ≡ length cs)
    × (u32_at h 12 ≡ length e)

abbrev pub IsTooLongHead : List ℕ → Type 0
IsTooLongHead h =
    (length h ≡ 16) × ((4100 < u32_at h 0) ⊎ (4100 < u32_at h 4) ⊎ (4100 < u32_at h 8) ⊎ (64 < u32_at h 12))

abbrev pub ReplaysNextPortfolio : Option (List ℕ) → Option (List ℕ) → Option Replayed → Type 0
ReplaysNextPortfolio old new None = IsAtEnd old
ReplaysNextPortfolio old new (Some Equal) =
    (h : List ℕ) × (xs : List ℕ) × (ys : List ℕ) × (n : ℕ) × (cs : List ℕ) × (e : List ℕ)
    × IsPortfolioHead h xs ys cs e × Consumes old new (h ++ bytes_of_portfolio xs ys n cs e) × IsCounted xs ys n cs e
ReplaysNextPortfolio old new (Some Different) =
    (h : List ℕ) × (xs : List ℕ) × (ys : List ℕ) × (n : ℕ) × (cs : List ℕ) × (e : List ℕ)
    × IsPortfolioHead h xs ys cs e × Consumes old new (h ++ bytes_of_portfolio xs ys n cs e)
    × ¬ (IsCounted xs ys n cs e)
ReplaysNextPortfolio old new (Some Unreadable) =
    IsAtEnd new ⊎ ((h : List ℕ) × IsTooLongHead h × Consumes old new h)
