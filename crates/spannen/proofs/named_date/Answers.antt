use Rattle.spannen.proofs.SpansNamed.{earliest_named, tag_named, month_named, before_named, window_named}
use Rattle.spannen.proofs.SpansNamed.{after_named, korridor_named, after_not, korridor_not, before_ok}
use Rattle.spannen.proofs.Sharp.{named_first, named_other}
use Rattle.spannen.proofs.named_date.Goals as goal

pub returns-clause-earliest : goal.returns-clause-earliest
returns-clause-earliest c = λ n w t a b y ht ha. earliest_named w t ht a ha b y n

pub returns-clause-tag : goal.returns-clause-tag
returns-clause-tag c = λ w t a b y ht ha. tag_named w t ht a ha b y

pub returns-clause-monate : goal.returns-clause-monate
returns-clause-monate c = λ n w t a b y ht ha. month_named w t ht a ha b y n

pub returns-clause-before : goal.returns-clause-before
returns-clause-before c = λ n w t a b y ht ha e f g. before_named w t ht a ha b y n f g e

pub returns-clause-window : goal.returns-clause-window
returns-clause-window c = λ m n w t a b y ht ha e f g. window_named w t ht a ha b y m n f g e

pub returns-clause-after : goal.returns-clause-after
returns-clause-after c = λ n w t a b y ht ha. after_named w t ht a ha b y n

pub returns-clause-korridor : goal.returns-clause-korridor
returns-clause-korridor c = λ n w t a b y ht ha. korridor_named w t ht a ha b y n

pub returns-clause-after_unacceptable : goal.returns-clause-after_unacceptable
returns-clause-after_unacceptable c = λ n w t a b y ht ha. after_not w t ht a ha b y n

pub returns-clause-korridor_unacceptable : goal.returns-clause-korridor_unacceptable
returns-clause-korridor_unacceptable c = λ n w t a b y ht ha. korridor_not w t ht a ha b y n

pub returns-clause-before_acceptable : goal.returns-clause-before_acceptable
returns-clause-before_acceptable c = λ n h w t a b y ht ha. before_ok w t ht a ha b y n h

pub returns-clause-monate_und_werktage_may_name : goal.returns-clause-monate_und_werktage_may_name
returns-clause-monate_und_werktage_may_name c = named_first

pub returns-clause-monate_und_werktage_may_miss : goal.returns-clause-monate_und_werktage_may_miss
returns-clause-monate_und_werktage_may_miss c = named_other
