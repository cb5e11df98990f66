use Rattle.fristen.proofs.OutsideValues.{contrl_windows, contrl_days, change_window, switch_sundays, change_edges}
use Rattle.fristen.proofs.OutsideValues.{strom, werktage, gas_processes, gas, added_hours, shapes}
use Rattle.fristen.proofs.theorems.outside_values.Goals as goal

pub returns-clause-contrl_windows : goal.returns-clause-contrl_windows
returns-clause-contrl_windows c = contrl_windows

pub returns-clause-contrl : goal.returns-clause-contrl
returns-clause-contrl c = contrl_days

pub returns-clause-change_window : goal.returns-clause-change_window
returns-clause-change_window c = change_window

pub returns-clause-switch_sundays : goal.returns-clause-switch_sundays
returns-clause-switch_sundays c = switch_sundays

pub returns-clause-change_edges : goal.returns-clause-change_edges
returns-clause-change_edges c = change_edges

pub returns-clause-aperak_strom : goal.returns-clause-aperak_strom
returns-clause-aperak_strom c = strom

pub returns-clause-werktage : goal.returns-clause-werktage
returns-clause-werktage c = werktage

pub returns-clause-gas_prozess : goal.returns-clause-gas_prozess
returns-clause-gas_prozess c = gas_processes

pub returns-clause-aperak_gas : goal.returns-clause-aperak_gas
returns-clause-aperak_gas c = gas

pub returns-clause-added_hours : goal.returns-clause-added_hours
returns-clause-added_hours c = added_hours

pub returns-clause-shapes : goal.returns-clause-shapes
returns-clause-shapes c = shapes
