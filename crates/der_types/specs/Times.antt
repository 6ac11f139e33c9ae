-- The contents of a UTCTime and of a GeneralizedTime.
use Rattle.std.specs.Prelude.{◌≡◌, ◌==◌, ◌<◌, ◌⊎◌, ℕ, ◌+◌, ◌-◌, ◌*◌, ◌/◌, ◌%◌, nat_lt, nat_le, Bool}
use Rattle.std.specs.Prelude.{not, ◌&&◌, ◌||◌, if◌then◌else◌, List, [], ◌∷◌, ◌++◌, length, take}
use Rattle.std.specs.Prelude.{drop, slice_index, slice_range, codes}
use Rattle.std.specs.Char.{is_ascii_digit}
use Rattle.std.specs.List.{list_all}
use Rattle.der_types.specs.declared.time.DateTime.{DateTime}

-- The Gregorian calendar has a 29 February in each year that 4 divides. One that 100 divides has it
-- only if 400 divides it.
abbrev pub is_leap_year : ℕ → Bool
is_leap_year year = year % 4 == 0 && (not (year % 100 == 0) || year % 400 == 0)

-- the days of a month, from 1 for January to 12 for December
abbrev pub days_in_month : ℕ → ℕ → ℕ
days_in_month year month =
    if month == 2 then (if is_leap_year year then 29 else 28)
    else (if month == 4 || (month == 6 || (month == 9 || month == 11)) then 30 else 31)

-- The first is earlier: it has the lesser year, or in the same year the lesser month, and so on to
-- the second.
abbrev pub IsEarlier : DateTime → DateTime → Type 0
IsEarlier a b =
    (a.year < b.year) ⊎ ((a.year ≡ b.year) × ((a.month < b.month) ⊎ ((a.month ≡ b.month)
    × ((a.day < b.day) ⊎ ((a.day ≡ b.day) × ((a.hour < b.hour) ⊎ ((a.hour ≡ b.hour)
    × ((a.minute < b.minute) ⊎ ((a.minute ≡ b.minute) × (a.second < b.second))))))))))

-- a day of the calendar, and an hour, a minute and a second of a day
abbrev pub is_date_time : DateTime → Bool
is_date_time time =
    (nat_le 1 time.month && nat_le time.month 12)
    && ((nat_le 1 time.day && nat_le time.day (days_in_month time.year time.month))
    && (nat_lt time.hour 24 && (nat_lt time.minute 60 && nat_lt time.second 60)))

-- The number that the digits at a place and the next encode. 30 (hexadecimal) is the digit 0.
abbrev pub two_digits : List ℕ → ℕ → ℕ
two_digits digits at = 10 * (slice_index digits at - 0x30) + (slice_index digits (at + 1) - 0x30)

-- MMDDhhmmss: the month, the day, the hour, the minute and the second, two digits each
abbrev pub date_time_after : ℕ → List ℕ → DateTime
date_time_after year digits = record {
  year = year;
  month = two_digits digits 0;
  day = two_digits digits 2;
  hour = two_digits digits 4;
  minute = two_digits digits 6;
  second = two_digits digits 8;
}

-- RFC 5280 section 4.1.2.5.1: the years 50 to 99 are 1950 to 1999, and 00 to 49 are 2000 to 2049.
abbrev pub utc_year : ℕ → ℕ
utc_year year = if nat_lt year 50 then 2000 + year else 1900 + year

-- X.680 section 47.3: YYMMDDhhmmss
abbrev pub utc_fields : List ℕ → DateTime
utc_fields digits = date_time_after (utc_year (two_digits digits 0)) (drop 2 digits)

-- X.680 section 46.2: YYYYMMDDhhmmss
abbrev pub generalized_fields : List ℕ → DateTime
generalized_fields digits =
    date_time_after (100 * two_digits digits 0 + two_digits digits 2) (drop 4 digits)

-- the time that the content of a UTCTime encodes
abbrev pub utc_date_time : List ℕ → DateTime
utc_date_time bytes = utc_fields (take 12 bytes)

-- the time that the content of a GeneralizedTime encodes, without the fraction of a second
abbrev pub generalized_date_time : List ℕ → DateTime
generalized_date_time bytes = generalized_fields (take 14 bytes)

-- X.680 section 47.3 and X.690 section 11.8: twelve digits, a time to the second, and Z (5A).
abbrev pub is_utc_time : List ℕ → Bool
is_utc_time bytes =
    length bytes == 13
    && (list_all is_ascii_digit (take 12 bytes)
    && (slice_index bytes 12 == 0x5A && is_date_time (utc_date_time bytes)))

-- X.690 section 11.7.3: the digits of a fraction, one or more, the last of which isn't 0 (30).
abbrev pub is_fraction : List ℕ → Bool
is_fraction digits =
    nat_lt 0 (length digits)
    && (not (slice_index digits (length digits - 1) == 0x30) && list_all is_ascii_digit digits)

-- what stands between the first byte and the last
abbrev pub inner : List ℕ → List ℕ
inner bytes = slice_range bytes 1 (length bytes - 1)

-- X.690 section 11.7: the end is Z (5A). A full stop (2E) and a fraction of a second may stand
-- before it.
unfoldable pub ends_time : List ℕ → Bool
ends_time bytes =
    (length bytes == 1 && slice_index bytes 0 == 0x5A)
    || ((nat_lt 1 (length bytes) && slice_index bytes 0 == 0x2E)
    && (slice_index bytes (length bytes - 1) == 0x5A && is_fraction (inner bytes)))

-- X.680 section 46.2 and X.690 section 11.7: fourteen digits, a time to the second, and the end.
abbrev pub is_generalized_time : List ℕ → Bool
is_generalized_time bytes =
    nat_lt 14 (length bytes)
    && (list_all is_ascii_digit (take 14 bytes)
    && (ends_time (drop 14 bytes) && is_date_time (generalized_date_time bytes)))

-- ---- the contents of a time

-- the two decimal digits of a number below 100
abbrev pub two_digit_text : ℕ → List ℕ
two_digit_text n = (0x30 + n / 10) ∷ (0x30 + n % 10) ∷ []

-- MMDDhhmmss
abbrev pub text_after_year : DateTime → List ℕ
text_after_year time =
    two_digit_text time.month ++ two_digit_text time.day ++ two_digit_text time.hour
    ++ two_digit_text time.minute
    ++ two_digit_text time.second

-- X.680 section 47.3 and X.690 section 11.8: YYMMDDhhmmssZ.
abbrev pub utc_content : DateTime → List ℕ
utc_content time = two_digit_text (time.year % 100) ++ text_after_year time ++ codes "Z"

-- X.690 section 11.7.3: a full stop and the digits of a fraction, or nothing if there is no
-- fraction.
abbrev pub fraction_text : List ℕ → List ℕ
fraction_text [] = []
fraction_text (digit ∷ digits) = codes "." ++ digit ∷ digits

-- X.680 section 46.2 and X.690 section 11.7: YYYYMMDDhhmmss, the fraction of a second and Z.
abbrev pub generalized_content : DateTime → List ℕ → List ℕ
generalized_content time fraction =
    two_digit_text (time.year / 100) ++ two_digit_text (time.year % 100) ++ text_after_year time
    ++ fraction_text fraction ++ codes "Z"

-- the digits of the fraction of a second in the content of a GeneralizedTime, none if there is no
-- fraction
abbrev pub fraction_of : List ℕ → List ℕ
fraction_of bytes = inner (drop 14 bytes)
