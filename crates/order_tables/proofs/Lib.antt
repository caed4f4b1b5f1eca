mod ModeLaws
