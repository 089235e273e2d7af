-- the settings of what is measured
use Rattle.tap_name.specs.Settings.{SettingsValue}

-- base 16, eight digits, width 2
abbrev pub measured : SettingsValue
measured = record { base = 16; digits = 8; width = 2 }
